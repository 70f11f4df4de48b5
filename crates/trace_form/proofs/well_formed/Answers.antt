-- `well_formed` looks at the length and at each record's policy byte. Assumes nothing.
use Rattle.std.proofs.Common.{ℕ, ◌+◌, ◌*◌, ◌/◌, ◌%◌, length, refl, ◌∙◌, arith, rules, tests, eq-eqb, ne_eqb, leb}
use Rattle.std.proofs.lemmas.Iterator.{YieldsList-from_range}
use Rattle.std.proofs.lemmas.Iterator.Search.{all_from_yields_List}
use Rattle.octets.specs.LittleEndian.{read_le}
use Rattle.trace_form.specs.Form.{well_formed}
use Rattle.trace_form.proofs.WellFormed.{policies-all}
use Rattle.trace_form.proofs.well_formed.Goals as goal

pub returns-then-trace-eq0 : goal.returns-then-trace-eq0
unfolding well_formed
returns-then-trace-eq0 c =
    let trace = c.args.trace.now in
    let n = length trace / 24 in
    rw (eq-eqb (length trace % 24) 0 c.if-trace-eq0.true)
    (all_from_yields_List (λ (i : ℕ). leb (read_le trace (24 * i + 7) 1) 3) _ _ _ c.all.ensures.ran (YieldsList-from_range 0 n n (cc) (omega arith)) (λ x b q k. search (rules, tests))
    ∙ policies-all n trace 0)

pub returns-else-trace-eq0 : goal.returns-else-trace-eq0
unfolding well_formed
returns-else-trace-eq0 c = rw (ne_eqb (length c.args.trace.now % 24) 0 c.if-trace-eq0.false) refl
