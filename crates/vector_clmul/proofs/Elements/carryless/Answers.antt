-- `carryless` does the elements vstart to vl - 1.
-- Assumes nothing.
use Rattle.vector_element.proofs.Steps.{turn, none_left}
use Rattle.vector_clmul.specs.Carryless.{carryless, carryless_step}
use Rattle.vector_clmul.proofs.Elements.carryless.Goals as goal

pub loop-i-preserved : goal.loop-i-preserved
loop-i-preserved c =
    let a = c.args in
    let s = a.self.operands.settings in
    turn (carryless_step a.which a.m a.self.operands.fields s) s.vl c.loop-i.i c.loop-i.file c.loop-i-test.true c.carryless_step.ensures c.loop-i.invariant

pub returns : goal.returns
unfolding carryless
returns c =
    let a = c.args in
    let s = a.self.operands.settings in
    none_left (carryless_step a.which a.m a.self.operands.fields s) s.vl c.loop-i.i c.loop-i.file c.loop-i-test.false c.loop-i.invariant
