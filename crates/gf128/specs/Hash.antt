-- GHASH: document 01, "Hash", and SP 800-38D, algorithm 2.
-- Assumes nothing.
use Rattle.std.specs.Prelude.{ℕ, zero, suc, ◌+◌, ◌*◌, ◌/◌, ◌^◌, List, [], ◌∷◌, ◌++◌, length}
use Rattle.std.specs.Int.Bits.{bit_xor}
use Rattle.gf128.specs.Bytes.{block_at}
use Rattle.gf128.specs.Field.{product}

-- one block X: Y := (Y xor X)·H
unfoldable pub next : ℕ → ℕ → ℕ → ℕ
next h y x = product (bit_xor y x) h

-- the partial hash after a list of blocks, from y
unfoldable pub over : ℕ → ℕ → List ℕ → ℕ
over h y [] = y
over h y (x ∷ xs) = over h (next h y x) xs

-- n blocks of s from block i on
unfoldable pub blocks_from : List ℕ → ℕ → ℕ → List ℕ
blocks_from s i zero = []
blocks_from s i (suc n) = block_at s (16 * i) ∷ blocks_from s (i + 1) n

-- s padded with zeros to whole blocks; an empty s has none
unfoldable pub blocks_of : List ℕ → List ℕ
blocks_of s = blocks_from s 0 ((length s + 15) / 16)

-- the bit lengths of A and C as two 64-bit big-endian numbers
unfoldable pub length_block : ℕ → ℕ → ℕ
length_block a c = 8 * a * 2 ^ 64 + 8 * c

-- the blocks of a whole message: A's, C's, and the length block
unfoldable pub message_of : List ℕ → List ℕ → List ℕ
message_of a c = blocks_of a ++ (blocks_of c ++ (length_block (length a) (length c) ∷ []))

-- the hash of a whole A and C under the key h: Y starts at zero
unfoldable pub ghash : ℕ → List ℕ → List ℕ → ℕ
ghash h a c = over h 0 (message_of a c)

-- number 11: the most bytes that A may have, and C
abbrev pub limit : ℕ
limit = 1048576
