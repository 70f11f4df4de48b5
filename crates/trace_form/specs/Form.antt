-- Document 02, Ask 3: "A trace whose length is no multiple of 24, or with a zero byte that isn't zero, is refused with a new number 14".
-- Ask 5: that byte holds the policies, 0 to 3, and "other values are 14".
-- Assumes nothing.
use Rattle.std.specs.Prelude.{ℕ, zero, suc, ◌+◌, ◌*◌, ◌/◌, ◌%◌, ◌<◌, ◌≤◌, Bool, true, ◌&&◌, List, ◌≡◌, eqb, leb, length}
use Rattle.trace_record.specs.Record.{record_at}

-- the policy bytes of n records from `at` on are at most 3
unfoldable pub policies_from : ℕ → List ℕ → ℕ → Bool
policies_from zero trace at = true
policies_from (suc n) trace at = leb (record_at trace at).policy 3 && policies_from n trace (at + 24)

-- whether replay takes a trace
unfoldable pub well_formed : List ℕ → Bool
well_formed trace = eqb (length trace % 24) 0 && policies_from (length trace / 24) trace 0

-- ---- for readers

-- whole records, and policy bytes 0 to 3
pub record WellFormed (trace : List ℕ) : Type 0 where
  pub whole : length trace % 24 ≡ 0
  pub policies : (i : ℕ) → i < length trace / 24 → (record_at trace (24 * i)).policy ≤ 3

-- the test tells exactly that
abbrev pub TestIsExact : Type 0
TestIsExact = (trace : List ℕ) → (well_formed trace ≡ true → WellFormed trace) × (WellFormed trace → well_formed trace ≡ true)
