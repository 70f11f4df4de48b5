-- `with_bytes` puts the bytes one after the other. The loop's invariant: those before place i are put. Assumes nothing.
use Rattle.std.proofs.Common.{◌≡◌, ◌-◌, take}
use Rattle.std.proofs.lemmas.List.Edits.{sets}
use Rattle.ghash_absorb.proofs.with_bytes.Given as goal

abbrev pub invariant-loop-i : goal.invariant-loop-i
invariant-loop-i l = l.bytes ≡ sets l.initial.bytes l.place (take (l.i - l.place) l.s)
