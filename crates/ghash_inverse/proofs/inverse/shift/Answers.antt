-- `shift` meets its contract: the digits that leave the high half are the highest of the low half. Assumes nothing.
use Rattle.std.proofs.Common.{arith}
use Rattle.ghash_inverse.proofs.Halves.{shift-less, shift-more}
use Rattle.ghash_inverse.proofs.inverse.shift.Goals as goal

pub returns-then-k-lt64 : goal.returns-then-k-lt64
returns-then-k-lt64 c = shift-less 63 c.args.k c.args.v.0 c.args.v.1 (omega arith) (omega arith)

pub returns-else-k-lt64 : goal.returns-else-k-lt64
returns-else-k-lt64 c = shift-more 64 c.args.k c.args.v.0 c.args.v.1 (omega arith) (omega arith)
