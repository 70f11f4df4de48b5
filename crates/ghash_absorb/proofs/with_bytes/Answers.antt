-- `with_bytes` puts the bytes one after the other, and past the last one leaves what is there. Assumes nothing.
use Rattle.std.proofs.Common.{sym, ap, ◌∙◌, ◌+◌, ◌-◌, arith, rules, take_all}
use Rattle.std.proofs.lemmas.List.Edits.{sets}
use Rattle.octets_slice.proofs.Puts.{sets-next}
use Rattle.ghash_absorb.proofs.with_bytes.Goals.{then-i-place, else-i-place}
use Rattle.ghash_absorb.proofs.with_bytes.Goals as goal

pub loop-i-preserved : goal.loop-i-preserved
loop-i-preserved c =
    let s = c.args.s.now in
    let at = c.args.place in
    let i = c.loop-i.i in
    elim c.if-i-place.branch [
      | then-i-place w ↦ w.bytes-is ∙ sets-next _ s _ at i (search rules) (omega arith) c.loop-i.invariant
      | else-i-place w ↦
          w.bytes-is ∙ c.loop-i.invariant
          ∙ ap (sets c.args.block at) (take_all (i - at) s (omega arith) ∙ sym (take_all (i + 1 - at) s (omega arith)))
    ]
