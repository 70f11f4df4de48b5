-- A trace as it stood before document 02's Ask 5, with a zero byte in each record: what reading and replay made of it, over the old executor
-- (`Executor`). Replay does the same with it now (`OldTracesSame`); `OldTracesTaken` shows which traces that speaks of.
-- Assumes nothing.
use Rattle.std.specs.Prelude.{ℕ, zero, suc, ◌+◌, ◌/◌, ◌%◌, Bool, true, false, cond, ◌&&◌, List, [], ◌∷◌, ◌++◌, ◌≡◌, eqb, length, replicate, Ok, Err}
use Rattle.octets.specs.LittleEndian.{read_le}
use Rattle.without_policies.specs.Executor.{OldSettings, old_refusal_of, old_executed}
use Rattle.trace_replay.specs.declared.Stopped.TheVariants.{Differs, Refused}
use Rattle.trace_replay.specs.Replay.{Outcome, replayed}

pub record OldRecord : Type 0 where
  pub word : ℕ
  pub sew : ℕ
  pub lmul : ℕ
  pub answer : ℕ
  pub vl : ℕ
  pub vstart : ℕ
  pub scalar : ℕ

abbrev pub old_record_at : List ℕ → ℕ → OldRecord
old_record_at trace at = record {
  word = read_le trace (at + 0) 4;
  sew = read_le trace (at + 4) 1;
  lmul = read_le trace (at + 5) 1;
  answer = read_le trace (at + 6) 1;
  vl = read_le trace (at + 8) 4;
  vstart = read_le trace (at + 12) 4;
  scalar = read_le trace (at + 16) 8;
}

-- the record's call
abbrev pub old_settings_of : ℕ → OldRecord → OldSettings
old_settings_of vlen r = record { vlen = vlen; sew = r.sew; lmul = r.lmul; vl = r.vl; vstart = r.vstart }

abbrev pub old_agrees : ℕ → OldRecord → List ℕ → Bool
old_agrees vlen r file = eqb (old_refusal_of (length file) r.word (old_settings_of vlen r)) r.answer

abbrev pub old_called : ℕ → OldRecord → List ℕ → List ℕ
old_called vlen r file = old_executed r.word (old_settings_of vlen r) r.scalar file

-- n records, the first of them, record i, at `at`
unfoldable pub old_replay_from : ℕ → ℕ → List ℕ → ℕ → ℕ → List ℕ → Outcome
old_replay_from vlen zero trace at i file = record { answer = Ok i; file = file }
old_replay_from vlen (suc n) trace at i file =
    cond (old_agrees vlen (old_record_at trace at) file)
    (old_replay_from vlen n trace (at + 24) (i + 1) (old_called vlen (old_record_at trace at) file))
    (record { answer = Err (Differs i); file = file })

-- whole records, whose zero bytes are zero
unfoldable pub old_zeros : ℕ → List ℕ → ℕ → Bool
old_zeros zero trace at = true
old_zeros (suc n) trace at = eqb (read_le trace (at + 7) 1) 0 && old_zeros n trace (at + 24)

abbrev pub old_well_formed : List ℕ → Bool
old_well_formed trace = eqb (length trace % 24) 0 && old_zeros (length trace / 24) trace 0

abbrev pub old_replayed : ℕ → List ℕ → List ℕ → Outcome
old_replayed vlen file trace =
    cond (old_well_formed trace) (old_replay_from vlen (length trace / 24) trace 0 0 file) (record { answer = Err Refused; file = file })

-- ---- the statement: the answer and the file of a trace that replay took are the old ones

abbrev pub OldTracesSame : Type 0
OldTracesSame = (vlen : ℕ) (file trace : List ℕ) → old_well_formed trace ≡ true → replayed vlen file trace ≡ old_replayed vlen file trace

-- ---- witnesses: which traces it speaks of. Of a record it looks at the zero byte alone, and of a trace at every record

abbrev pub with_zero_byte : ℕ → List ℕ
with_zero_byte b = replicate 7 255 ++ (b ∷ replicate 16 255)

pub record OldTracesTaken : Type 0 where
  pub empty : old_well_formed [] ≡ true
  pub two : old_well_formed (with_zero_byte 0 ++ with_zero_byte 0) ≡ true
  -- not these: the second zero byte is not zero, or there are 49 bytes
  pub nonzero : old_well_formed (with_zero_byte 0 ++ with_zero_byte 1) ≡ false
  pub torn : old_well_formed (with_zero_byte 0 ++ (with_zero_byte 0 ++ (0 ∷ []))) ≡ false
