-- `read_le` gives the number in n bytes. The loop's invariant: v is the number in the bytes from place i on.
-- Assumes nothing.
use Rattle.std.proofs.Common.{◌≡◌, ◌+◌, ◌-◌}
use Rattle.octets.specs.LittleEndian.{read_le}
use Rattle.octets_le.proofs.read_le.Given as goal

abbrev pub invariant-loop-i : goal.invariant-loop-i
invariant-loop-i l = l.v ≡ read_le l.s (l.at + l.i) (l.n - l.i)
