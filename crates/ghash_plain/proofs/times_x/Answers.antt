-- `times_x` meets its contract: times x goes by the halves. Assumes nothing.
use Rattle.std.proofs.Common.{arith}
use Rattle.ghash_block.proofs.Halves.{halves-times_x}
use Rattle.ghash_plain.proofs.times_x.Goals as goal

pub returns : goal.returns
returns c = halves-times_x 63 0xE100000000000000 c.args.v.0 c.args.v.1 (omega arith)
