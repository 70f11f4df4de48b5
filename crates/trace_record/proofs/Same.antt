-- What stands at a place is the same record wherever its 24 bytes stand: at the start of a longer trace, or after another.
-- Main results: `record-within`, `record-after`.
-- Assumes nothing.
use Rattle.std.proofs.Common.{ℕ, ◌+◌, ◌<◌, ◌≤◌, List, ◌++◌, ◌≡◌, arith, length, get_or, get_or-append-add}
use lib.ListN.{get_or-append}
use Rattle.octets.specs.LittleEndian.{read_le}
use Rattle.octets.proofs.LittleEndian.{le_same}
use Rattle.trace_record.specs.Record.{record_at}

-- 24 bytes that agree
abbrev Agree : List ℕ → List ℕ → ℕ → ℕ → Type 0
Agree s t a b = (k : ℕ) → k < 24 → get_or s (a + k) 0 ≡ get_or t (b + k) 0

number : (s t : List ℕ) (a b place n : ℕ) → Agree s t a b → place + n ≤ 24 → read_le s (a + place) n ≡ read_le t (b + place) n
number s t a b place n e h =
    le_same n s t (a + place) (b + place) (λ k l.
    let p : a + place + k ≡ a + (place + k) = omega arith in
    let q : b + place + k ≡ b + (place + k) = omega arith in
    rw (p, q) (e (place + k) (omega arith)))

record_same : (s t : List ℕ) (a b : ℕ) → Agree s t a b → record_at s a ≡ record_at t b
unfolding record_at
record_same s t a b e =
    λ i. record {
      word = number s t a b 0 4 e (omega arith) i;
      sew = number s t a b 4 1 e (omega arith) i;
      lmul = number s t a b 5 1 e (omega arith) i;
      answer = number s t a b 6 1 e (omega arith) i;
      policy = number s t a b 7 1 e (omega arith) i;
      vl = number s t a b 8 4 e (omega arith) i;
      vstart = number s t a b 12 4 e (omega arith) i;
      scalar = number s t a b 16 8 e (omega arith) i;
    }

within : (s t : List ℕ) (at : ℕ) → at + 24 ≤ length s → Agree (s ++ t) s at at
within s t at h k l = get_or-append s t 0 (at + k) (omega arith)

after : (s t : List ℕ) (at : ℕ) → Agree (s ++ t) t (length s + at) at
after s t at k l = let e : length s + at + k ≡ length s + (at + k) = omega arith in rw e (get_or-append-add s t (at + k) 0)

pub record-within : (s t : List ℕ) (at : ℕ) → at + 24 ≤ length s → record_at (s ++ t) at ≡ record_at s at
record-within s t at h = record_same (s ++ t) s at at (within s t at h)

pub record-after : (s t : List ℕ) (at : ℕ) → record_at (s ++ t) (length s + at) ≡ record_at t at
record-after s t at = record_same (s ++ t) t (length s + at) at (after s t at)
