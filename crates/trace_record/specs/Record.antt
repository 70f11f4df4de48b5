-- Document 02, Ask 3: a trace is records of 24 bytes, no header: word (4), SEW, LMUL, answer, a zero byte, vl (4), vstart (4),
-- scalar (8), numbers low byte first. Ask 5: "The zero byte of the trace record now holds the tail policy as 1 and the mask policy as 2,
-- added; other values are 14."
-- Assumes nothing.
use Rattle.std.specs.Prelude.{ℕ, zero, suc, ◌+◌, ◌/◌, Bool, cond, not, ◌&&◌, ◌||◌, List, [], ◌∷◌, ◌++◌, eqb, ltb, length}
use Rattle.octets.specs.LittleEndian.{read_le, le_bytes}
use Rattle.trace_record.specs.declared.Record.{Record}

-- the record in the 24 bytes from `at` on
unfoldable pub record_at : List ℕ → ℕ → Record
record_at trace at = record {
  word = read_le trace (at + 0) 4;
  sew = read_le trace (at + 4) 1;
  lmul = read_le trace (at + 5) 1;
  answer = read_le trace (at + 6) 1;
  policy = read_le trace (at + 7) 1;
  vl = read_le trace (at + 8) 4;
  vstart = read_le trace (at + 12) 4;
  scalar = read_le trace (at + 16) 8;
}

-- n records from `at` on, and the whole records of a trace
unfoldable pub records_from : ℕ → List ℕ → ℕ → List Record
records_from zero trace at = []
records_from (suc n) trace at = record_at trace at ∷ records_from n trace (at + 24)

abbrev pub records : List ℕ → List Record
records trace = records_from (length trace / 24) trace 0

-- a record's bytes
unfoldable pub record_bytes : Record → List ℕ
record_bytes r =
    le_bytes 4 r.word
    ++ (le_bytes 1 r.sew
    ++ (le_bytes 1 r.lmul
    ++ (le_bytes 1 r.answer
    ++ (le_bytes 1 r.policy
    ++ (le_bytes 4 r.vl
    ++ (le_bytes 4 r.vstart
    ++ le_bytes 8 r.scalar))))))

-- SEW, LMUL and the answer have one byte each, and a policy byte over 3 is none
abbrev pub too_large : Record → Bool
too_large r = ltb 255 r.sew || (ltb 255 r.lmul || (ltb 255 r.answer || ltb 3 r.policy))

-- 14: the buffer is not 24 bytes long, or a number has no room; nothing is then written
abbrev pub writable : ℕ → Record → Bool
writable len r = eqb len 24 && not (too_large r)

abbrev pub write_number : ℕ → Record → ℕ
write_number len r = cond (writable len r) 0 14

abbrev pub written_into : List ℕ → Record → List ℕ
written_into buffer r = cond (writable (length buffer) r) (record_bytes r) buffer
