-- `ghash_vv` does the groups vstart/4 to vl/4 - 1, each with its own key.
-- Assumes nothing.
use Rattle.std.proofs.Common.{◌/◌}
use Rattle.vector_element.proofs.Steps.{turn, none_left}
use Rattle.vector_ghash.specs.GhashWords.{ghash_vv, vv_step}
use Rattle.vector_ghash.proofs.ghash_vv.Goals as goal

pub loop-i-preserved : goal.loop-i-preserved
loop-i-preserved c =
    let s = c.args.operands.settings in
    turn (vv_step c.args.m c.args.operands.fields s) (s.vl / 4) c.loop-i.i c.loop-i.file c.loop-i-test.true c.vv_step.ensures c.loop-i.invariant

pub returns : goal.returns
unfolding ghash_vv
returns c =
    let s = c.args.operands.settings in
    none_left (vv_step c.args.m c.args.operands.fields s) (s.vl / 4) c.loop-i.i c.loop-i.file c.loop-i-test.false c.loop-i.invariant
