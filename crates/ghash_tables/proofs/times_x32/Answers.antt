-- `times_x32` is times x 32 times: what stays moves on by the halves, and what leaves comes back reduced.
-- Assumes nothing.
use Rattle.std.proofs.Common.{rules}
use Rattle.gf128.specs.Field.{reduction}
use Rattle.ghash_block.proofs.Halves.{halves-shifted}
use Rattle.ghash_tables.proofs.times_x32.Goals as goal

pub returns : goal.returns
returns c reductions =
    let z = c.args.z in halves-shifted 32 32 z.0 z.1 reduction _ (search rules) (c.reduced.ensures reductions)
