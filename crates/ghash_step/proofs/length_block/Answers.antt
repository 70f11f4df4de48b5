-- `length_block` is the block of the two bit lengths. Assumes nothing.
use Rattle.std.proofs.Common.{ℕ, ◌+◌, ◌*◌, ◌^◌, ap₂}
use Rattle.gf128.specs.Hash.{length_block}
use Rattle.ghash_step.proofs.length_block.Goals as goal

pub returns : goal.returns
unfolding length_block
returns c = ap₂ (λ (high low : ℕ). high * 2 ^ 64 + low) c.new.ensures.0 c.new.ensures.1
