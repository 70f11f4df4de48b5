-- `mask_fill` does the elements vstart to vl - 1, if the mask is agnostic.
-- Assumes nothing.
use Rattle.std.proofs.Common.{cond, sym, ap, ◌∙◌, ◌-◌}
use Rattle.vector_element.specs.Steps.{steps}
use Rattle.vector_element.proofs.Steps.{turn, none_left}
use Rattle.vector_fill.specs.Fill.{mask_step, mask_filled}
use Rattle.vector_fill.proofs.mask_fill.Goals as goal

pub loop-i-preserved : goal.loop-i-preserved
loop-i-preserved c =
    let f = c.args.operands.fields in
    let s = c.args.operands.settings in
    turn (mask_step f s) s.vl c.loop-i.i c.loop-i.file c.loop-i-test.true c.mask_step.ensures c.loop-i.invariant

pub returns-after-loop-i : goal.returns-after-loop-i
unfolding mask_filled
returns-after-loop-i c =
    let f = c.args.operands.fields in
    let s = c.args.operands.settings in
    let left = none_left (mask_step f s) s.vl c.loop-i.i c.loop-i.file c.loop-i-test.false c.loop-i.invariant in
    left ∙ ap (λ on. cond on (steps (mask_step f s) (s.vl - s.vstart) s.vstart c.args.file.now) c.args.file.now) (sym c.if-s.true)
