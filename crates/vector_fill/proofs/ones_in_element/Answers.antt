-- `ones_in_element` writes ones bits to an element's bytes, as far as the file goes.
-- Assumes nothing.
use Rattle.std.proofs.Common.{◌≡◌, ◌+◌, ◌/◌, sym, ap, ◌∙◌}
use Rattle.std.proofs.lemmas.List.{set_past}
use Rattle.vector_element.proofs.Steps.{turn, none_left}
use Rattle.vector_fill.specs.Fill.{ones_at, ones_between}
use Rattle.vector_fill.proofs.ones_in_element.Goals as goal
use Rattle.vector_fill.proofs.ones_in_element.Goals.{then-p-file, else-p-file}

pub loop-p-preserved : goal.loop-p-preserved
loop-p-preserved c =
    let p = c.loop-p.p in
    let file = c.loop-p.file in
    let written : c.if-p-file.file ≡ ones_at p file = elim c.if-p-file.branch [
      | then-p-file w ↦ w.file-is
      | else-p-file w ↦ w.file-is ∙ sym (set_past file p 255 w.if-p-file.false)
    ] in
    turn ones_at (c.element_at-at.result + c.args.operands.settings.sew / 8) p file c.loop-p-test.true written c.loop-p.invariant

pub returns : goal.returns
unfolding ones_between
returns c =
    let s = c.args.operands.settings in
    let left = none_left ones_at (c.element_at-at.result + s.sew / 8) c.loop-p.p c.loop-p.file c.loop-p-test.false c.loop-p.invariant in
    left ∙ ap (λ at. ones_between at (at + s.sew / 8) c.args.file.now) c.element_at-at.ensures
