-- `write_le` writes the n low bytes of a number. The loop's invariant is what is left: to write the bytes that are left
-- from place i on to the slice as it stands is to write all of them to the slice at entry.
-- Assumes nothing.
use Rattle.std.proofs.Common.{◌≡◌, ◌+◌, ◌-◌}
use Rattle.octets.specs.LittleEndian.{write_le}
use Rattle.octets_le.proofs.write_le.Given as goal

abbrev pub invariant-loop-i : goal.invariant-loop-i
invariant-loop-i l = write_le (l.n - l.i) l.s (l.at + l.i) l.left ≡ write_le l.n l.initial.s l.at l.v
