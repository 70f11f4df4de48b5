-- `product_plain` meets its contract: a turn of the loop is one place of document 01's definition.
-- Assumes nothing.
use Rattle.std.proofs.Common.{◌≡◌, refl, sym, ap, ap₂, ◌∙◌, arith}
use lib.Bits.{bit_xor}
use Rattle.ghash_block.specs.Block.{value_of}
use Rattle.gf128.specs.Field.{sum_of, shifted_of, times_x, reduction, product_of}
use Rattle.ghash_plain.proofs.Steps.{next-shifted, added, kept}
use Rattle.ghash_plain.proofs.product_plain.Goals as goal
use Rattle.ghash_plain.proofs.product_plain.Goals.{then-coefficient-eq1, else-coefficient-eq1}

pub loop-k-init : goal.loop-k-init
unfolding sum_of shifted_of
loop-k-init c = (refl, refl)

pub loop-k-preserved : goal.loop-k-preserved
loop-k-preserved c =
    let k = c.loop-k.k in
    let u = value_of c.args.u in
    let h = value_of c.from-v.result in
    let inv = c.loop-k.invariant in (
      elim c.if-coefficient-eq1.branch [
        | then-coefficient-eq1 w ↦ ap value_of w.z-is ∙ w.xor-z.ensures ∙ ap₂ bit_xor inv.0 inv.1
            ∙ sym (added 127 reduction u h k (sym c.coefficient.ensures ∙ w.if-coefficient-eq1.true))
        | else-coefficient-eq1 w ↦ ap value_of w.z-is ∙ inv.0 ∙ sym (kept 127 reduction u h k (λ e. w.if-coefficient-eq1.false (c.coefficient.ensures ∙ e)))
      ],
      c.times_x-v.ensures ∙ ap times_x inv.1 ∙ sym (next-shifted 127 reduction u h k),
    )

pub returns : goal.returns
unfolding product_of
returns c =
    let done : c.loop-k.k ≡ 128 = omega arith in
    c.loop-k.invariant.0 ∙ ap₂ (sum_of 127 reduction (value_of c.args.u)) c.from-v.ensures done
