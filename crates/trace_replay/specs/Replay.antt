-- Document 02, Ask 3: replay folds the executor over the records of a trace, with the policies of Ask 5.
-- Assumes nothing.
use Rattle.std.specs.Prelude.{ℕ, ◌+◌, Bool, cond, List, [], ◌∷◌, eqb, length, Result, Ok, Err}
use Rattle.vector_registers.specs.declared.settings.Settings.{Settings}
use Rattle.vector_refusal.specs.Refusal.{refusal_of}
use Rattle.vector_execute.specs.Execute.{executed}
use Rattle.trace_record.specs.declared.Record.{Record}
use Rattle.trace_record.specs.Record.{records}
use Rattle.trace_policy.specs.Policy.{vta_of, vma_of}
use Rattle.trace_form.specs.Form.{well_formed}
use Rattle.trace_replay.specs.declared.Stopped.{Stopped}
use Rattle.trace_replay.specs.declared.Stopped.TheVariants.{Differs, Refused}

-- ---- a record: one call of the executor

abbrev pub settings_of : ℕ → Record → Settings
settings_of vlen r =
    record { vlen = vlen; sew = r.sew; lmul = r.lmul; vta = vta_of r.policy; vma = vma_of r.policy; vl = r.vl; vstart = r.vstart }

-- our answer, and the file after the call
abbrev pub ours : ℕ → Record → List ℕ → ℕ
ours vlen r file = refusal_of (length file) r.word (settings_of vlen r)

abbrev pub called : ℕ → Record → List ℕ → List ℕ
called vlen r file = executed r.word (settings_of vlen r) r.scalar file

-- the record's answer is ours
abbrev pub agrees : ℕ → Record → List ℕ → Bool
agrees vlen r file = eqb (ours vlen r file) r.answer

-- the file after the record: one whose answer is not ours changes nothing
abbrev pub after_record : ℕ → Record → List ℕ → List ℕ
after_record vlen r file = cond (agrees vlen r file) (called vlen r file) file

-- ---- replay

-- how many records a replay did, or why it stopped
abbrev pub Replayed : Type 0
Replayed = Result ℕ Stopped

pub record Outcome : Type 0 where
  pub answer : Replayed
  pub file : List ℕ

-- from record i on
unfoldable pub replay_from : ℕ → List Record → ℕ → List ℕ → Outcome
replay_from vlen [] i file = record { answer = Ok i; file = file }
replay_from vlen (r ∷ rest) i file =
    cond (agrees vlen r file) (replay_from vlen rest (i + 1) (called vlen r file)) (record { answer = Err (Differs i); file = file })

-- 14 where the trace is not well formed, before anything runs
unfoldable pub replayed : ℕ → List ℕ → List ℕ → Outcome
replayed vlen file trace = cond (well_formed trace) (replay_from vlen (records trace) 0 file) (record { answer = Err Refused; file = file })

-- ---- the number and the index that C gets: no answer byte is 256

abbrev pub number_of : Replayed → ℕ
number_of (Ok count) = 0
number_of (Err (Differs i)) = 256
number_of (Err Refused) = 14

abbrev pub index_of : Replayed → ℕ
index_of (Ok count) = count
index_of (Err (Differs i)) = i
index_of (Err Refused) = 0
