-- `replay` goes through the records. The loop's invariant is what is left: to replay the records from i on, on the file as it stands, is to
-- replay all of them on the file at entry.
-- Assumes nothing.
use Rattle.std.proofs.Common.{◌≡◌, ℕ, ◌+◌, ◌-◌, ◌*◌, ◌/◌, List, length, Ok, Err, refl, sym, ap, ◌∙◌, arith}
use Rattle.trace_record.specs.Record.{records_from}
use Rattle.trace_replay.specs.declared.Stopped.TheVariants.{Differs}
use Rattle.trace_replay.specs.Replay.{replay_from, replayed}
use Rattle.trace_replay.proofs.Fold.{left, same_more, differs_more, ends}
use Rattle.trace_replay.proofs.replay.Goals as goal

pub returns-then-not-well_formed : goal.returns-then-not-well_formed
unfolding replayed
returns-then-not-well_formed c = rw (sym c.well_formed-2.ensures ∙ c.if-not-well_formed.true) (refl, refl)

pub returns-then-not-replay_record : goal.returns-then-not-replay_record
returns-then-not-replay_record c =
    let a = c.args in
    let told = c.replay_record.ensures in
    ends a.vlen a.file.now a.trace.now _ (sym c.well_formed-2.ensures ∙ c.if-not-well_formed.false)
    (sym c.loop-i.invariant
    ∙ differs_more a.vlen _ a.trace.now c.loop-i.i c.loop-i.file c.record_at.result
    c.loop-i-test.true c.record_at.ensures (sym told.0 ∙ c.if-not-replay_record.true)
    ∙ ap (λ (f : List ℕ). record { answer = Err (Differs c.loop-i.i); file = f }) (sym told.1))

pub loop-i-preserved : goal.loop-i-preserved
loop-i-preserved c =
    let a = c.args in
    let told = c.replay_record.ensures in
    ap (left a.vlen _ a.trace.now (c.loop-i.i + 1)) told.1
    ∙ sym (same_more a.vlen _ a.trace.now c.loop-i.i c.loop-i.file c.record_at.result
    c.loop-i-test.true c.record_at.ensures (sym told.0 ∙ c.if-not-replay_record.false))
    ∙ c.loop-i.invariant

pub returns : goal.returns
unfolding records_from replay_from
returns c =
    let a = c.args in
    let n = length a.trace.now / 24 in
    let none : n - c.loop-i.i ≡ 0 = omega arith in
    let last : c.loop-i.i ≡ n = omega arith in
    ends a.vlen a.file.now a.trace.now _ (sym c.well_formed-2.ensures ∙ c.if-not-well_formed.false)
    (sym c.loop-i.invariant
    ∙ ap (λ (k : ℕ). replay_from a.vlen (records_from k a.trace.now (24 * c.loop-i.i)) c.loop-i.i c.loop-i.file) none
    ∙ ap (λ (k : ℕ). record { answer = Ok k; file = c.loop-i.file }) last)
