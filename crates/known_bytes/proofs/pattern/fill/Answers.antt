-- `fill` puts the pattern. Assumes nothing.
use Rattle.std.proofs.Common.{ℕ, ◌%◌, refl, ap, ◌∙◌, arith, get_or-set_other, get_or-set_same, below_none, below_more, rules}
use Rattle.known_bytes.specs.Pattern.{number_at}
use Rattle.known_bytes.proofs.Filled.{is-filled}
use Rattle.known_bytes.proofs.Numbers.{number-next}
use Rattle.known_bytes.proofs.pattern.fill.Goals as goal

pub loop-byte-init : goal.loop-byte-init
unfolding number_at
loop-byte-init c = (refl, below_none _)

pub loop-byte-preserved : goal.loop-byte-preserved
loop-byte-preserved c =
    let i = c.loop-byte.byte-index in
    let s = c.loop-byte.s in
    let inv = c.loop-byte.invariant in (
      number-next _ i c.next-b.ensures inv.0,
      below_more _ _ (λ k l. get_or-set_other s i k _ 0 (omega arith) ∙ inv.1 k l)
          (get_or-set_same s i _ 0 (omega arith) ∙ ap (λ (x : ℕ). x % 256) inv.0),
    )

pub returns : goal.returns
returns c =
    let end = c.loop-byte in
    is-filled _ end.s _ (search rules) (λ k l. end.invariant.1 k (omega arith))
