-- Document 02, Ask 3: a reader gives the whole records of a trace in order, then none.
-- Assumes nothing.
use Rattle.std.specs.Prelude.{ℕ, zero, suc, ◌+◌, ◌-◌, ◌/◌, Bool, cond, List, [], ◌∷◌, ◌++◌, map, ◌≡◌, leb, length, replicate, Option, Some, None}
use Rattle.trace_record.specs.declared.Record.{Record}
use Rattle.trace_record.specs.Record.{record_at, records_from, records}

-- a whole record stands at a place of a trace of this length: a rest of under 24 bytes is no record
abbrev pub whole_at : ℕ → ℕ → Bool
whole_at len at = leb (at + 24) len

-- what a call gives at a place, a record or none at the end, and the place after it
abbrev pub next_at : List ℕ → ℕ → Option Record
next_at trace at = cond (whole_at (length trace) at) (Some (record_at trace at)) None

abbrev pub place_after : List ℕ → ℕ → ℕ
place_after trace at = cond (whole_at (length trace) at) (at + 24) at

-- the whole records from a place on
abbrev pub records_left : List ℕ → ℕ → List Record
records_left trace at = records_from ((length trace - at) / 24) trace at

-- ---- for readers

-- what n calls give from a place on
unfoldable pub calls : ℕ → List ℕ → ℕ → List (Option Record)
calls zero trace at = []
calls (suc n) trace at = next_at trace at ∷ calls n trace (place_after trace at)

-- from the start, as many calls as there are whole records give them in order, and all later ones none
abbrev pub GivesTheRecords : Type 0
GivesTheRecords = (trace : List ℕ) (later : ℕ) → calls (length trace / 24 + later) trace 0 ≡ map Some (records trace) ++ replicate later None

-- what a reader at the start has left, as an iterator, are the whole records of the trace
abbrev pub LeftIsRecords : Type 0
LeftIsRecords = (trace : List ℕ) → records_left trace 0 ≡ records trace
