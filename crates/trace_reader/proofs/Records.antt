-- Calls of the reader give the whole records of the trace, then none; and these are what it has left at the start.
-- Assumes nothing.
use Rattle.std.proofs.Common.{ℕ, zero, suc, ◌+◌, ◌-◌, ◌*◌, ◌/◌, ◌%◌, ◌<◌, List, ◌∷◌, ◌++◌, map, Option, Some, None, ◌≡◌, refl, ap, ◌∙◌, suc-add, zero-add, arith, le-leb, length, replicate}
use borrow.Author.Tests.{lt-leb}
use Rattle.trace_record.specs.declared.Record.{Record}
use Rattle.trace_record.specs.Record.{record_at, records_from}
use Rattle.trace_reader.specs.Reader.{calls, GivesTheRecords, LeftIsRecords}

-- at the end, which stays
ends : (n : ℕ) (trace : List ℕ) (at : ℕ) → length trace < at + 24 → calls n trace at ≡ replicate n None
unfolding calls
ends zero trace at h = refl
ends (suc n) trace at h = rw (lt-leb (at + 24) (length trace) h) (ap (λ (l : List (Option Record)). None ∷ l) (ends n trace at h))

-- from a place on, with m whole records left and a rest
from : (m later : ℕ) (trace : List ℕ) (at rest : ℕ) → rest < 24 → length trace ≡ at + 24 * m + rest
    → calls (m + later) trace at ≡ map Some (records_from m trace at) ++ replicate later None
unfolding calls records_from
from zero later trace at rest short e = ap (λ (n : ℕ). calls n trace at) (zero-add later) ∙ ends later trace at (omega arith)
from (suc m) later trace at rest short e =
    ap (λ (n : ℕ). calls n trace at) (suc-add m later)
    ∙ rw (le-leb (at + 24) (length trace) (omega arith))
    (ap (λ (l : List (Option Record)). Some (record_at trace at) ∷ l) (from m later trace (at + 24) rest short (omega arith)))

pub gives-the-records : GivesTheRecords
gives-the-records trace later = from (length trace / 24) later trace 0 (length trace % 24) (omega arith) (omega arith)

pub left-is-records : LeftIsRecords
left-is-records trace =
    let all : length trace - 0 ≡ length trace = omega arith in ap (λ (n : ℕ). records_from (n / 24) trace 0) all
