-- What replay's answers mean, for readers: by the executor's calls one after the other.
-- Assumes nothing.
use Rattle.std.specs.Prelude.{ℕ, zero, suc, ◌+◌, ◌*◌, ◌/◌, ◌<◌, List, ◌++◌, ◌≡◌, length, Ok, Err}
use Rattle.trace_record.specs.declared.Record.{Record}
use Rattle.trace_record.specs.Record.{record_at}
use Rattle.trace_form.specs.Form.{WellFormed}
use Rattle.trace_replay.specs.declared.Stopped.TheVariants.{Differs, Refused}
use Rattle.trace_replay.specs.Replay.{ours, called, Replayed, Outcome, replayed}

-- how many whole records a trace has, and the one with an index
abbrev pub count : List ℕ → ℕ
count trace = length trace / 24

abbrev pub record_of : List ℕ → ℕ → Record
record_of trace i = record_at trace (24 * i)

-- the file after the first i records, a call of the executor for each
unfoldable pub file_after : ℕ → List ℕ → ℕ → List ℕ → List ℕ
file_after vlen trace zero file = file
file_after vlen trace (suc i) file = called vlen (record_of trace i) (file_after vlen trace i file)

-- record i's answer is ours: that of its call on the file after the records before it
abbrev pub IsOurs : ℕ → List ℕ → List ℕ → ℕ → Type 0
IsOurs vlen file trace i = ours vlen (record_of trace i) (file_after vlen trace i file) ≡ (record_of trace i).answer

abbrev pub OursBefore : ℕ → List ℕ → List ℕ → ℕ → Type 0
OursBefore vlen file trace n = (i : ℕ) → i < n → IsOurs vlen file trace i

-- what an answer with a file means
abbrev pub Means : ℕ → List ℕ → List ℕ → Replayed → List ℕ → Type 0
Means vlen file trace (Ok n) file' =
    WellFormed trace × (n ≡ count trace) × OursBefore vlen file trace n × (file' ≡ file_after vlen trace n file)
Means vlen file trace (Err (Differs i)) file' =
    WellFormed trace × (i < count trace) × OursBefore vlen file trace i × (IsOurs vlen file trace i → ⊥) × (file' ≡ file_after vlen trace i file)
Means vlen file trace (Err Refused) file' = (WellFormed trace → ⊥) × (file' ≡ file)

-- replay's answer and file mean that
abbrev pub ReplayMeans : Type 0
ReplayMeans = (vlen : ℕ) (file trace : List ℕ) → Means vlen file trace (replayed vlen file trace).answer (replayed vlen file trace).file

-- no other answer or file does: each answer is given exactly when it means what is so
abbrev pub OneMeaning : Type 0
OneMeaning = (vlen : ℕ) (file trace : List ℕ) (o : Outcome) → Means vlen file trace o.answer o.file → o ≡ replayed vlen file trace

-- two parts, both done, are the whole
abbrev pub DoneInParts : Type 0
DoneInParts = (vlen m n : ℕ) (file middle last s t : List ℕ)
    → replayed vlen file s ≡ record { answer = Ok m; file = middle }
    → replayed vlen middle t ≡ record { answer = Ok n; file = last }
    → replayed vlen file (s ++ t) ≡ record { answer = Ok (m + n); file = last }
