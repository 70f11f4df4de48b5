-- A record of data/gcm.bin (host/derive/vectors.py): H, GHASH, the lengths of A and of C in 2 bytes each, the lowest first, A and C.
-- Assumes nothing.
use Rattle.std.specs.Prelude.{List, ℕ, ◌+◌, min, length}
use Rattle.octets.specs.LittleEndian.{read_le}

-- where A ends in the record that starts at `at`; what is cut short ends where the bytes do
abbrev pub a_end : List ℕ → ℕ → ℕ
a_end s at = min (min (at + 36) (length s) + read_le s (at + 32) 2) (length s)

-- where the record ends, with C
abbrev pub record_end : List ℕ → ℕ → ℕ
record_end s at = min (a_end s at + read_le s (at + 34) 2) (length s)
