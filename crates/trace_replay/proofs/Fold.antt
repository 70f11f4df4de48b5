-- Replay by one more record: what the record's answer decides; and how it ends.
-- Assumes nothing.
use Rattle.std.proofs.Common.{ℕ, suc, ◌+◌, ◌-◌, ◌*◌, ◌<◌, true, false, cond, List, ◌≡◌, refl, sym, ap, ap₂, ◌∙◌, arith, Err}
use Rattle.trace_record.specs.declared.Record.{Record}
use Rattle.trace_record.specs.Record.{record_at, records_from, records}
use Rattle.trace_form.specs.Form.{well_formed}
use Rattle.trace_replay.specs.declared.Stopped.TheVariants.{Differs}
use Rattle.trace_replay.specs.Replay.{called, agrees, after_record, Outcome, replay_from, replayed}

-- of n records, those from i on
abbrev pub left : ℕ → ℕ → List ℕ → ℕ → List ℕ → Outcome
left vlen n trace i file = replay_from vlen (records_from (n - i) trace (24 * i)) i file

module _ (vlen n : ℕ) (trace : List ℕ) (i : ℕ) (file : List ℕ) (r : Record) (l : i < n) (e : r ≡ record_at trace (24 * i)) where
  -- what the test of the record's answer decides
  more : left vlen n trace i file
      ≡ cond (agrees vlen r file) (left vlen n trace (i + 1) (called vlen r file)) (record { answer = Err (Differs i); file = file })
  unfolding records_from replay_from
  more =
      let others : n - i ≡ suc (n - (i + 1)) = omega arith in
      let next : 24 * i + 24 ≡ 24 * (i + 1) = omega arith in
      ap (λ (k : ℕ). replay_from vlen (records_from k trace (24 * i)) i file) others
      ∙ ap₂
      (λ (q : Record) (at : ℕ).
      cond (agrees vlen q file) (replay_from vlen (records_from (n - (i + 1)) trace at) (i + 1) (called vlen q file)) (record { answer = Err (Differs i); file = file }))
      (sym e) next

  -- its answer is ours: the records after it are left
  pub same_more : agrees vlen r file ≡ true → left vlen n trace i file ≡ left vlen n trace (i + 1) (after_record vlen r file)
  same_more h = more ∙ rw h refl

  -- its answer is another: that is all
  pub differs_more : agrees vlen r file ≡ false → left vlen n trace i file ≡ record { answer = Err (Differs i); file = after_record vlen r file }
  differs_more h = more ∙ rw h refl

-- the replay of a well-formed trace ends as its records do
pub ends : (vlen : ℕ) (file trace : List ℕ) (o : Outcome) → well_formed trace ≡ true
    → replay_from vlen (records trace) 0 file ≡ o → (o.answer ≡ (replayed vlen file trace).answer) × (o.file ≡ (replayed vlen file trace).file)
unfolding replayed
ends vlen file trace o w e = rw w (sym (ap (λ (p : Outcome). p.answer) e), sym (ap (λ (p : Outcome). p.file) e))
