-- A call gives the first of the records that are left, and leaves the others. Main result: `turn`. Assumes nothing.
use Rattle.std.proofs.Common.{◌≡◌, ℕ, suc, ◌+◌, ◌-◌, ◌/◌, ◌<◌, ◌≤◌, Bool, true, false, cond, List, [], ◌∷◌, length, Option, Some, None, MatchOption, refl, ap, arith, leb-true, leb-false}
use Rattle.std.specs.Iterator.{YieldsFirst, MakesProgress, item_count}
use Rattle.trace_record.specs.declared.Record.{Record}
use Rattle.trace_record.specs.Record.{record_at, records_from}
use Rattle.trace_reader.specs.Reader.{whole_at, next_at, place_after, records_left}

-- there is one more
more : (trace : List ℕ) (at : ℕ) → at + 24 ≤ length trace → records_left trace at ≡ record_at trace at ∷ records_left trace (at + 24)
unfolding records_from
more trace at h =
    let e : (length trace - at) / 24 ≡ suc ((length trace - (at + 24)) / 24) = omega arith in
    ap (λ (n : ℕ). records_from n trace at) e

-- there is none
none : (trace : List ℕ) (at : ℕ) → length trace < at + 24 → records_left trace at ≡ []
unfolding records_from
none trace at h =
    let e : (length trace - at) / 24 ≡ 0 = omega arith in
    ap (λ (n : ℕ). records_from n trace at) e

pub turn : (trace after : List ℕ) (at next : ℕ) (r : Option Record) → r ≡ next_at trace at → after ≡ trace → next ≡ place_after trace at
    → MatchOption r ((records_left trace at ≡ []) × (records_left after next ≡ [])) (λ x. records_left trace at ≡ x ∷ records_left after next)
turn trace after at next r e f g = rw (e, f, g) (go (whole_at (length trace) at) refl)
  where
    go : (b : Bool) → whole_at (length trace) at ≡ b
        → MatchOption (cond b (Some (record_at trace at)) None)
        ((records_left trace at ≡ []) × (records_left trace (cond b (at + 24) at) ≡ []))
        (λ x. records_left trace at ≡ x ∷ records_left trace (cond b (at + 24) at))
    go true h = more trace at (leb-true (at + 24) (length trace) h)
    go false h = (none trace at (leb-false (at + 24) (length trace) h), none trace at (leb-false (at + 24) (length trace) h))

-- an iterator that gives the first of what is left comes nearer to its end
pub progress : {S A : Type 0} (rest : S → List A) (can : S → Type 0) → ((s : S) → can s) → (s t : S) (r : Option A)
    → YieldsFirst rest s r t → MakesProgress can (item_count rest) s r t
progress rest can any s t None e = record { on = λ _. tt; keeps = tt; rests = λ _. tt }
progress rest can any s t (Some x) e =
    record { on = λ _. (any t, tt, omega (arith, ap length e)); keeps = any t; rests = λ _. tt }
