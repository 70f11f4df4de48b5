-- `ghash_vs` does the groups vstart/4 to vl/4 - 1 with one key, read before any write. The loop's invariant is what is left.
-- Assumes nothing.
use Rattle.std.proofs.Common.{◌≡◌, ◌-◌, ◌/◌}
use Rattle.vector_element.specs.Steps.{steps}
use Rattle.vector_ghash.specs.GhashWords.{group, vs_step}
use Rattle.vector_ghash.proofs.ghash_vs.Given as goal

abbrev pub invariant-loop-i : goal.invariant-loop-i
invariant-loop-i l =
    let f = l.operands.fields in
    let s = l.operands.settings in
    let step = vs_step (group s l.initial.file f.vs2 0) l.m f s in
    steps step (s.vl / 4 - l.i) l.i l.file ≡ steps step (s.vl / 4 - s.vstart / 4) (s.vstart / 4) l.initial.file
