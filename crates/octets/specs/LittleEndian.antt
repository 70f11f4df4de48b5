-- Bytes and numbers, the lowest byte first. Bytes past the end of a list count as zeros, and are not written.
-- Assumes nothing.
use Rattle.std.specs.Prelude.{ℕ, zero, suc, ◌+◌, ◌*◌, ◌/◌, ◌%◌, List, [], ◌∷◌, get_or, set}

-- the number in n bytes from `at` on
unfoldable pub read_le : List ℕ → ℕ → ℕ → ℕ
read_le s at zero = 0
read_le s at (suc n) = read_le s (at + 1) n * 256 + get_or s at 0

-- s with the n low bytes of v from `at` on
unfoldable pub write_le : ℕ → List ℕ → ℕ → ℕ → List ℕ
write_le zero s at v = s
write_le (suc n) s at v = write_le n (set s at (v % 256)) (at + 1) (v / 256)

-- the n low bytes of v
unfoldable pub le_bytes : ℕ → ℕ → List ℕ
le_bytes zero v = []
le_bytes (suc n) v = v % 256 ∷ le_bytes n (v / 256)
