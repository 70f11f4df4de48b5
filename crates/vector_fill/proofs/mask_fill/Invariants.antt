-- `mask_fill` does the elements vstart to vl - 1, if the mask is agnostic. The loop's invariant is what is left, in the file as it stands.
-- Assumes nothing.
use Rattle.std.proofs.Common.{◌≡◌, ◌-◌}
use Rattle.vector_element.specs.Steps.{steps}
use Rattle.vector_fill.specs.Fill.{mask_step}
use Rattle.vector_fill.proofs.mask_fill.Given as goal

abbrev pub invariant-loop-i : goal.invariant-loop-i
invariant-loop-i l =
    let f = l.operands.fields in
    let s = l.operands.settings in
    steps (mask_step f s) (s.vl - l.i) l.i l.file ≡ steps (mask_step f s) (s.vl - s.vstart) s.vstart l.initial.file
