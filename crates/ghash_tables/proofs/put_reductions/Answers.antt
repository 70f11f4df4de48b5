-- `put_reductions` copies the sixteen reductions, whose rule is one test over the whole table. Assumes nothing.
use Rattle.std.proofs.Common.{refl, below_none}
use Rattle.gf128.specs.Field.{times_x_of, shifted_of}
use Rattle.ghash_tables.proofs.Multiples.{reduced}
use Rattle.ghash_tables.proofs.put_reductions.Goals as goal

pub loop-n-init : goal.loop-n-init
unfolding shifted_of times_x_of
loop-n-init c = (reduced _ tt, below_none _, λ k h. refl)
