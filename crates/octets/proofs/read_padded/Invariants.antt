-- `read_padded` meets its contract. The loop's invariant: v is the number of the i bytes read.
-- Assumes nothing.
use Rattle.std.proofs.Common.{◌≡◌}
use Rattle.octets.specs.BigEndian.{be_at}
use Rattle.octets.proofs.read_padded.Given as goal

abbrev pub invariant-loop-i : goal.invariant-loop-i
invariant-loop-i l = l.v ≡ be_at l.s l.at l.i
