-- `fields_in` reads vd and vs2, and then what follows. Assumes nothing.
use Rattle.std.proofs.Common.{◌≡◌, ap, ◌∙◌, ◌+◌}
use Rattle.vector_reader.specs.declared.Scanned.{Scanned}
use Rattle.vector_reader.specs.Scan.{scanned, operands_at, fields_after, fields_in}
use Rattle.vector_reader.proofs.fields_in.Goals as goal

pub returns : goal.returns
unfolding fields_in
returns c =
    let args = c.args in
    let s = args.s.now in
    let d : c.number_at-d.result ≡ scanned s (operands_at args.k) = c.number_at-d.ensures ∙ ap (scanned s) c.operands_at.ensures in
    let m : c.number_at-m.result ≡ scanned s ((scanned s (operands_at args.k)).end + 3) =
    c.number_at-m.ensures ∙ ap (λ (n : Scanned). scanned s (n.end + 3)) d in
    c.fields_after.ensures ∙ λ i. fields_after (c.has_third.ensures i) s (d i) (m i)
