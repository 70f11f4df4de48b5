-- `ghash_vv` does the groups vstart/4 to vl/4 - 1, each with its own key. The loop's invariant is what is left.
-- Assumes nothing.
use Rattle.std.proofs.Common.{◌≡◌, ◌-◌, ◌/◌}
use Rattle.vector_element.specs.Steps.{steps}
use Rattle.vector_ghash.specs.GhashWords.{vv_step}
use Rattle.vector_ghash.proofs.ghash_vv.Given as goal

abbrev pub invariant-loop-i : goal.invariant-loop-i
invariant-loop-i l =
    let f = l.operands.fields in
    let s = l.operands.settings in
    steps (vv_step l.m f s) (s.vl / 4 - l.i) l.i l.file ≡ steps (vv_step l.m f s) (s.vl / 4 - s.vstart / 4) (s.vstart / 4) l.initial.file
