-- The loop's invariant: from the hash so far, the hash over what is left is that over all of s. Assumes nothing.
use Rattle.std.proofs.Common.{◌≡◌}
use Rattle.gf128.specs.Hash.{over, blocks_of}
use Rattle.ghash_block.specs.Block.{value_of, key_of}
use Rattle.ghash_step.specs.Path.{IsPrepared}
use Rattle.ghash_step.proofs.PreparedKey.over_blocks.Given as goal

abbrev pub invariant-loop-block : goal.invariant-loop-block
invariant-loop-block l =
    (l.block-iterator.size ≡ 16)
    × (IsPrepared l.self
    → over (key_of l.self.key) (value_of l.hash) (blocks_of l.block-iterator.rest.now) ≡ over (key_of l.self.key) (value_of l.initial.hash) (blocks_of l.s))
