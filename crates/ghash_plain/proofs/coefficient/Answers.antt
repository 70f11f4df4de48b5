-- `coefficient` meets its contract: places 0 to 63 are in the high half, 64 to 127 in the low one. Assumes nothing.
use Rattle.std.proofs.Common.{arith}
use Rattle.ghash_block.proofs.Halves.{high-coefficient, low-coefficient}
use Rattle.ghash_plain.proofs.coefficient.Goals as goal

pub returns-then-k-lt64 : goal.returns-then-k-lt64
returns-then-k-lt64 c = high-coefficient 63 c.args.k c.args.u.0 c.args.u.1 (omega arith) (omega arith)

pub returns : goal.returns
returns c = low-coefficient 63 c.args.k c.args.u.0 c.args.u.1 (omega arith) (omega arith)
