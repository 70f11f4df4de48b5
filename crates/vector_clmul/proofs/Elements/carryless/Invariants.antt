-- `carryless` does the elements vstart to vl - 1. The loop's invariant is what is left, in the file as it stands.
-- Assumes nothing.
use Rattle.std.proofs.Common.{◌≡◌, ◌-◌}
use Rattle.vector_element.specs.Steps.{steps}
use Rattle.vector_clmul.specs.Carryless.{carryless_step}
use Rattle.vector_clmul.proofs.Elements.carryless.Given as goal

abbrev pub invariant-loop-i : goal.invariant-loop-i
invariant-loop-i l =
    let f = l.self.operands.fields in
    let s = l.self.operands.settings in
    steps (carryless_step l.which l.m f s) (s.vl - l.i) l.i l.file ≡ steps (carryless_step l.which l.m f s) (s.vl - s.vstart) s.vstart l.initial.file
