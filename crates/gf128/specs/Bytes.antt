-- A block in its 16 bytes, the highest byte first; bytes past the end of a list count as zeros.
-- Assumes nothing.
use Rattle.std.specs.Prelude.{ℕ, ◌+◌, cond, List, leb, length}
use Rattle.std.proofs.lemmas.List.Edits.{sets}
use Rattle.octets.specs.BigEndian.{be_at, be_bytes}

-- the block in the 16 bytes from `at` on
abbrev pub block_at : List ℕ → ℕ → ℕ
block_at s at = be_at s at 16

-- the 16 bytes of a block
abbrev pub block_bytes : ℕ → List ℕ
block_bytes v = be_bytes 16 v

-- s with a block's bytes from `at` on; s itself where they do not fit
abbrev pub put_block : List ℕ → ℕ → ℕ → List ℕ
put_block s at v = cond (leb (at + 16) (length s)) (sets s at (block_bytes v)) s
