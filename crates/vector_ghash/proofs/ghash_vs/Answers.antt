-- `ghash_vs` does the groups vstart/4 to vl/4 - 1 with one key, read before any write.
-- Assumes nothing.
use Rattle.std.proofs.Common.{ℕ, ◌/◌, ap, ◌∙◌}
use Rattle.ghash_block.specs.Block.{key_of}
use Rattle.vector_element.proofs.Steps.{turn, none_left}
use Rattle.vector_ghash.specs.GhashWords.{group, ghash_vs, vs_step}
use Rattle.vector_ghash.proofs.ghash_vs.Goals as goal

pub loop-i-preserved : goal.loop-i-preserved
loop-i-preserved c =
    let m = c.args.m in
    let f = c.args.operands.fields in
    let s = c.args.operands.settings in
    let key = ap key_of c.fill-key.ensures ∙ c.key_in.ensures in
    let done = c.vs_step.ensures ∙ ap (λ (h : ℕ). vs_step h m f s c.loop-i.i c.loop-i.file) key in
    turn (vs_step (group s c.args.file.now f.vs2 0) m f s) (s.vl / 4) c.loop-i.i c.loop-i.file c.loop-i-test.true done c.loop-i.invariant

pub returns : goal.returns
unfolding ghash_vs
returns c =
    let s = c.args.operands.settings in
    let h = group s c.args.file.now c.args.operands.fields.vs2 0 in
    none_left (vs_step h c.args.m c.args.operands.fields s) (s.vl / 4) c.loop-i.i c.loop-i.file c.loop-i-test.false c.loop-i.invariant
