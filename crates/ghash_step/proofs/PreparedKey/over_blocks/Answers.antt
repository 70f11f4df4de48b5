-- `over_blocks` is the partial hash over all blocks of s: a turn of the loop takes one piece of 16 bytes, or the shorter last one.
-- Assumes nothing.
use Rattle.std.proofs.Common.{ℕ, min, length, sym, ap, ◌∙◌}
use Rattle.gf128.specs.Hash.{next, over, blocks_of}
use Rattle.ghash_block.specs.Block.{value_of, key_of}
use Rattle.ghash_step.proofs.Blocks.{over-piece, over-none}
use Rattle.ghash_step.proofs.PreparedKey.over_blocks.Goals as goal

pub loop-block-preserved : goal.loop-block-preserved
loop-block-preserved c = (
  c.in-Some.ensures.steps.0 ∙ c.loop-block.invariant.0,
  λ prepared.
      let h = key_of c.args.self.now.key in
      let left = c.loop-block.block-iterator.rest.now in
      let piece = c.in-Some.ensures.steps.1 in
      let rest = c.next.new.self.rest.now in
      ap (λ (y : ℕ). over h y (blocks_of rest)) (c.next-hash.ensures prepared ∙ ap (next h (value_of c.loop-block.hash)) c.block_at.ensures)
      ∙ sym (over-piece h (value_of c.loop-block.hash) left c.in-Some.block.now rest piece.0
      (piece.1 ∙ ap (λ (n : ℕ). min n (length left)) c.loop-block.invariant.0) piece.2)
      ∙ c.loop-block.invariant.1 prepared,
)

pub returns : goal.returns
returns c = λ prepared.
    sym (over-none (key_of c.args.self.now.key) (value_of c.loop-block.hash) _ c.in-None.ensures.steps.1.0) ∙ c.loop-block.invariant.1 prepared
