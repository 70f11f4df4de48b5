-- `ones_in_element` writes ones bits to an element's bytes. The loop's invariant is what is left: the bytes from p on, in the file as it stands.
-- Assumes nothing.
use Rattle.std.proofs.Common.{◌≡◌, ◌-◌}
use Rattle.vector_element.specs.Steps.{steps}
use Rattle.vector_fill.specs.Fill.{ones_at}
use Rattle.vector_fill.proofs.ones_in_element.Given as goal

abbrev pub invariant-loop-p : goal.invariant-loop-p
invariant-loop-p l = steps ones_at (l.p-end - l.p) l.p l.file ≡ steps ones_at (l.p-end - l.at) l.at l.initial.file
