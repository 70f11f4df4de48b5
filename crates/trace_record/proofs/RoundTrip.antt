-- A record's bytes and its fields undo each other, field by field.
-- Assumes nothing.
use Rattle.std.proofs.Common.{ℕ, ◌+◌, ◌≤◌, List, [], ◌++◌, ◌≡◌, ap, ◌∙◌, add-zero, arith, length, take, drop}
use lib.Seq.{sets}
use Rattle.octets.specs.Bytes.{AreBytes}
use Rattle.octets.specs.LittleEndian.{read_le, le_bytes}
use Rattle.octets.proofs.LittleEndian.{le_same, read-le_bytes, le_bytes-read}
use Rattle.octets.proofs.Stores.{sets-at, parts_join}
use Rattle.trace_record.specs.declared.Record.{Record}
use Rattle.trace_record.specs.Record.{record_at, record_bytes}
use Rattle.trace_record.specs.RoundTrip.{WrittenIsRead, ReadIsWritten}
use Rattle.trace_record.proofs.Bytes.{length-record_bytes}

-- ---- written, then read

-- a number of a record that was put at a place is the same number of its bytes
there : (r : Record) (s : List ℕ) (at place n : ℕ) → at + 24 ≤ length s → place + n ≤ 24
    → read_le (sets s at (record_bytes r)) (at + place) n ≡ read_le (record_bytes r) place n
there r s at place n h k =
    let l = length-record_bytes r in
    le_same n (sets s at (record_bytes r)) (record_bytes r) (at + place) place (λ j lt.
    let e : at + place + j ≡ at + (place + j) = omega arith in
    rw e (sets-at s at (record_bytes r) (place + j) (omega arith) (omega arith)))

-- the number of a field, in the record's bytes and in its own, is computed from the same bytes
pub written-is-read : WrittenIsRead
unfolding read_le le_bytes record_at record_bytes
written-is-read r s at h =
    λ i. record {
      word = (there r s at 0 4 h (omega arith) ∙ read-le_bytes 4 r.word []) i;
      sew = (there r s at 4 1 h (omega arith) ∙ read-le_bytes 1 r.sew []) i;
      lmul = (there r s at 5 1 h (omega arith) ∙ read-le_bytes 1 r.lmul []) i;
      answer = (there r s at 6 1 h (omega arith) ∙ read-le_bytes 1 r.answer []) i;
      policy = (there r s at 7 1 h (omega arith) ∙ read-le_bytes 1 r.policy []) i;
      vl = (there r s at 8 4 h (omega arith) ∙ read-le_bytes 4 r.vl []) i;
      vstart = (there r s at 12 4 h (omega arith) ∙ read-le_bytes 4 r.vstart []) i;
      scalar = (there r s at 16 8 h (omega arith) ∙ read-le_bytes 8 r.scalar []) i;
    }

-- ---- read, then written

-- n bytes that were read, before the m bytes after them
before : (n m at next : ℕ) (s later : List ℕ) → AreBytes s → at + n ≤ length s → next ≡ at + n → later ≡ take m (drop next s)
    → le_bytes n (read_le s at n) ++ later ≡ take (n + m) (drop at s)
before n m at next s later b h = parts_join n m at next s (le_bytes n (read_le s at n)) later (le_bytes-read n s at b h)

pub read-is-written : ReadIsWritten
unfolding le_bytes record_at record_bytes
read-is-written s at b h =
    before 4 20 (at + 0) (at + 4) s _ b (omega arith) (omega arith)
    (before 1 19 (at + 4) (at + 5) s _ b (omega arith) (omega arith)
    (before 1 18 (at + 5) (at + 6) s _ b (omega arith) (omega arith)
    (before 1 17 (at + 6) (at + 7) s _ b (omega arith) (omega arith)
    (before 1 16 (at + 7) (at + 8) s _ b (omega arith) (omega arith)
    (before 4 12 (at + 8) (at + 12) s _ b (omega arith) (omega arith)
    (before 4 8 (at + 12) (at + 16) s _ b (omega arith) (omega arith)
    (le_bytes-read 8 s (at + 16) b (omega arith))))))))
    ∙ ap (λ (p : ℕ). take 24 (drop p s)) (add-zero at)
