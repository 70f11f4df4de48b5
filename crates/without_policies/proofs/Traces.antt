-- Replay of a trace whose zero bytes are zero is the old replay (`old-traces-same`): each of its records is a call with both policies off.
-- Assumes nothing.
use Rattle.std.proofs.Common.{ℕ, zero, suc, ◌+◌, ◌/◌, ◌%◌, Err, Bool, true, cond, List, ◌≡◌, refl, ap, ap₂, ◌∙◌, arith, eqb-true, le-leb, eqb, length}
use Rattle.octets.specs.LittleEndian.{read_le}
use Rattle.octets.proofs.Tests.{both}
use Rattle.vector_registers.specs.declared.settings.Settings.{Settings}
use Rattle.vector_refusal.specs.Refusal.{refusal_of}
use Rattle.vector_execute.specs.Execute.{executed}
use Rattle.without_policies.specs.Executor.{policies_off}
use Rattle.without_policies.proofs.Executor.{same-without-policies}
use Rattle.trace_record.specs.Record.{record_at, records_from}
use Rattle.trace_policy.specs.Policy.{vta_of, vma_of}
use Rattle.trace_form.specs.Form.{policies_from, well_formed}
use Rattle.trace_replay.specs.declared.Stopped.TheVariants.{Differs}
use Rattle.trace_replay.specs.Replay.{settings_of, agrees, called, Outcome, replay_from, replayed}
use Rattle.without_policies.specs.Traces.{OldRecord, old_record_at, old_settings_of, old_agrees, old_called, old_replay_from, old_zeros, OldTracesSame, OldTracesTaken}

-- ---- a record whose zero byte is zero

module _ (vlen : ℕ) (trace : List ℕ) (at : ℕ) (z : read_le trace (at + 7) 1 ≡ 0) where
  abbrev old : OldRecord
  old = old_record_at trace at

  off : settings_of vlen (record_at trace at) ≡ policies_off (old_settings_of vlen old)
  unfolding record_at
  off = λ j. record { vlen = vlen; sew = old.sew; lmul = old.lmul; vta = vta_of (z j); vma = vma_of (z j); vl = old.vl; vstart = old.vstart }

  agrees-same : (file : List ℕ) → agrees vlen (record_at trace at) file ≡ old_agrees vlen old file
  unfolding record_at
  agrees-same file =
      ap (λ (s : Settings). eqb (refusal_of (length file) old.word s) old.answer) off
      ∙ ap (λ (n : ℕ). eqb n old.answer) (same-without-policies old.word (old_settings_of vlen old) old.scalar file).0

  called_same : (file : List ℕ) → called vlen (record_at trace at) file ≡ old_called vlen old file
  unfolding record_at
  called_same file =
      ap (λ (s : Settings). executed old.word s old.scalar file) off
      ∙ (same-without-policies old.word (old_settings_of vlen old) old.scalar file).2

-- ---- all of them

module _ (vlen : ℕ) (trace : List ℕ) where
  first-zero : (n at : ℕ) → old_zeros (suc n) trace at ≡ true → (read_le trace (at + 7) 1 ≡ 0) × (old_zeros n trace (at + 24) ≡ true)
  unfolding old_zeros
  first-zero n at h =
      let p = both (eqb (read_le trace (at + 7) 1) 0) (old_zeros n trace (at + 24)) h in
      (eqb-true (read_le trace (at + 7) 1) 0 p.0, p.1)

  allowed : (n at : ℕ) → old_zeros n trace at ≡ true → policies_from n trace at ≡ true
  unfolding policies_from record_at
  allowed zero at h = refl
  allowed (suc n) at h =
      let p = first-zero n at h in
      rw (le-leb (read_le trace (at + 7) 1) 3 (omega (arith, p.0))) (allowed n (at + 24) p.1)

  from-same : (n at i : ℕ) (file : List ℕ) → old_zeros n trace at ≡ true
      → replay_from vlen (records_from n trace at) i file ≡ old_replay_from vlen n trace at i file
  unfolding records_from replay_from old_replay_from
  from-same zero at i file h = refl
  from-same (suc n) at i file h =
      let p = first-zero n at h in
      let here : Outcome = record { answer = Err (Differs i); file = file } in
      let next = old_called vlen (old_record_at trace at) file in
      ap₂ (λ (b : Bool) (g : List ℕ). cond b (replay_from vlen (records_from n trace (at + 24)) (i + 1) g) here)
      (agrees-same vlen trace at p.0 file) (called_same vlen trace at p.0 file)
      ∙ ap (λ (o : Outcome). cond (old_agrees vlen (old_record_at trace at) file) o here) (from-same n (at + 24) (i + 1) next p.1)

pub old-traces-same : OldTracesSame
unfolding well_formed replayed
old-traces-same vlen file trace h =
    let p = both (eqb (length trace % 24) 0) (old_zeros (length trace / 24) trace 0) h in
    rw (h, p.0, allowed vlen trace (length trace / 24) 0 p.1) (from-same vlen trace (length trace / 24) 0 0 file p.1)

pub old-traces-taken : OldTracesTaken
unfolding read_le old_zeros
old-traces-taken = record { empty = refl; two = refl; nonzero = refl; torn = refl }
