-- The difference of two degrees is under 128. Assumes nothing.
use Rattle.std.proofs.Common.{arith}
use Rattle.ghash_block.specs.Block.{value_of}
use Rattle.gf128.proofs.Division.{degree-le}
use Rattle.ghash_inverse.proofs.inverse.Row.reduced_by.Goals as goal

pub shift-requires : goal.shift-requires
shift-requires c = omega (arith, degree-le (value_of c.args.self.value))

pub shift-requires-2 : goal.shift-requires-2
shift-requires-2 c = omega (arith, degree-le (value_of c.args.self.value))
