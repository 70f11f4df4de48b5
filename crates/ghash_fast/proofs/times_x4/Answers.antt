-- `times_x4` is times x four times: what stays moves on by the halves, and what leaves comes back reduced.
-- Assumes nothing.
use Rattle.std.proofs.Common.{◌%◌, rules}
use Rattle.gf128.specs.Field.{reduction}
use Rattle.ghash_block.proofs.Halves.{halves-shifted}
use Rattle.ghash_fast.proofs.times_x4.Goals as goal

pub returns : goal.returns
returns c reductions =
    let z = c.args.z in
    halves-shifted 60 4 z.0 z.1 reduction _ (search rules) (reductions.overflow (z.1 % 16) (search rules))
