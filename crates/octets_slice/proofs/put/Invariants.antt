-- `put` puts the bytes one after the other. The loop's invariant: those before place i are put. Assumes nothing.
use Rattle.std.proofs.Common.{◌≡◌, ◌+◌, ◌≤◌, ◌-◌, length, take}
use Rattle.std.proofs.lemmas.List.Edits.{sets}
use Rattle.octets_slice.proofs.put.Given as goal

abbrev pub invariant-loop-i : goal.invariant-loop-i
invariant-loop-i l = (l.end ≤ l.at + length l.part) × (l.s ≡ sets l.initial.s l.at (take (l.i - l.at) l.part))
