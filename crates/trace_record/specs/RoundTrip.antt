-- A record's bytes and its fields undo each other, for readers.
-- Assumes nothing.
use Rattle.std.specs.Prelude.{ℕ, ◌+◌, ◌%◌, ◌^◌, ◌≤◌, List, ◌≡◌, length, take, drop}
use Rattle.std.proofs.lemmas.List.Edits.{sets}
use Rattle.octets.specs.Bytes.{AreBytes}
use Rattle.trace_record.specs.declared.Record.{Record}
use Rattle.trace_record.specs.Record.{record_at, record_bytes}

-- a record of which each number keeps the bytes that it has room for: a record that the writer takes stays as it is
abbrev pub cut : Record → Record
cut r = record {
  word = r.word % 2 ^ 32;
  sew = r.sew % 2 ^ 8;
  lmul = r.lmul % 2 ^ 8;
  answer = r.answer % 2 ^ 8;
  policy = r.policy % 2 ^ 8;
  vl = r.vl % 2 ^ 32;
  vstart = r.vstart % 2 ^ 32;
  scalar = r.scalar % 2 ^ 64;
}

-- what is written is read again
abbrev pub WrittenIsRead : Type 0
WrittenIsRead = (r : Record) (s : List ℕ) (at : ℕ) → at + 24 ≤ length s → record_at (sets s at (record_bytes r)) at ≡ cut r

-- 24 bytes are written again as they were
abbrev pub ReadIsWritten : Type 0
ReadIsWritten = (s : List ℕ) (at : ℕ) → AreBytes s → at + 24 ≤ length s → record_bytes (record_at s at) ≡ take 24 (drop at s)
