-- GHASH in the words of NIST SP 800-38D: the product of blocks (algorithm 1), the hash of a string of blocks (algorithm 2), and the
-- string that GCM hashes for A and C (algorithm 4). `StandardProduct` and `StandardHash` say that document 01's are these.
-- Strings are of bytes, since document 01's are. A block is its 16 bytes read big-endian, so its leftmost bit is the highest binary
-- digit: ⊕ is `bit_xor`, >> 1 is `/ 2`, LSB_1 is `% 2`.
-- Assumes nothing.
use Rattle.std.specs.Prelude.{ℕ, zero, suc, ◌+◌, ◌-◌, ◌*◌, ◌/◌, ◌%◌, ◌^◌, ◌<◌, ◌≤◌, ◌≡◌, cond, List, [], ◌∷◌, ◌++◌, eqb, length, take, drop, replicate}
use Rattle.std.specs.Int.Bits.{bit_xor}
use Rattle.octets.specs.BigEndian.{be_bytes}
use Rattle.gf128.specs.Bytes.{block_at}
use Rattle.gf128.specs.Entries.{hash_block}
use Rattle.gf128.specs.Field.{product}
use Rattle.gf128.specs.Hash.{ghash, limit}

-- ---- section 6.3, algorithm 1: X • Y

-- R = 11100001 ‖ 0^120
abbrev pub R : ℕ
R = 0xE1 * 2 ^ 120

-- step 1: x_0 x_1 .. x_127 is the sequence of bits in X
abbrev pub bit_of : ℕ → ℕ → ℕ
bit_of X i = X / 2 ^ (127 - i) % 2

-- the blocks Z_i and V_i
pub record Blocks : Type 0 where
  pub z : ℕ
  pub v : ℕ

-- step 3, of x_i: Z_i if x_i = 0, Z_i ⊕ V_i if x_i = 1; V_i >> 1 if LSB_1(V_i) = 0, (V_i >> 1) ⊕ R if LSB_1(V_i) = 1
abbrev pub next_blocks : ℕ → Blocks → Blocks
next_blocks x b =
    record {
      z = cond (eqb x 0) b.z (bit_xor b.z b.v);
      v = cond (eqb (b.v % 2) 0) (b.v / 2) (bit_xor (b.v / 2) R);
    }

-- step 2: Z_0 = 0^128 and V_0 = Y; step 3: for i = 0 to 127
unfoldable pub blocks_after : ℕ → ℕ → ℕ → Blocks
blocks_after X Y zero = record { z = 0; v = Y }
blocks_after X Y (suc i) = next_blocks (bit_of X i) (blocks_after X Y i)

-- step 4: Z_128
unfoldable pub algorithm1 : ℕ → ℕ → ℕ
algorithm1 X Y = (blocks_after X Y 128).z

-- ---- section 6.4, algorithm 2: GHASH_H (X)

-- len(X), in bits
abbrev pub len : List ℕ → ℕ
len X = 8 * length X

-- step 1: the sequence of blocks X_1 .. X_m with X = X_1 ‖ .. ‖ X_m
unfoldable pub cut_into : ℕ → List ℕ → List ℕ
cut_into zero X = []
cut_into (suc m) X = block_at (take 16 X) 0 ∷ cut_into m (drop 16 X)

-- step 3: Y_i = (Y_(i-1) ⊕ X_i) • H, for each block
unfoldable pub hashed : ℕ → ℕ → List ℕ → ℕ
hashed H Y [] = Y
hashed H Y (X ∷ Xs) = hashed H (algorithm1 (bit_xor Y X) H) Xs

-- len(X) = 128 m; step 2: Y_0 = 0^128; step 4: Y_m
unfoldable pub algorithm2 : ℕ → List ℕ → ℕ
algorithm2 H X = hashed H 0 (cut_into (len X / 128) X)

-- ---- section 7.1, algorithm 4, steps 4 and 5: what is hashed for A and C

-- v = 128 · ⌈len(A) / 128⌉ - len(A), in bits; of C likewise, u
abbrev pub bits_to_pad : List ℕ → ℕ
bits_to_pad A = 128 * ((len A + 127) / 128) - len A

-- 0^v
unfoldable pub padding : List ℕ → List ℕ
padding A = replicate (bits_to_pad A / 8) 0

-- [len(A)]_64
abbrev pub length_field : List ℕ → List ℕ
length_field A = be_bytes 8 (len A)

-- A ‖ 0^v ‖ C ‖ 0^u ‖ [len(A)]_64 ‖ [len(C)]_64
unfoldable pub string_of : List ℕ → List ℕ → List ℕ
string_of A C = A ++ (padding A ++ (C ++ (padding C ++ (length_field A ++ length_field C))))

-- ---- document 01's are these

abbrev pub StandardProduct : Type 0
StandardProduct = (X Y : ℕ) → algorithm1 X Y ≡ product X Y

-- for every A and C that the standard allows: [x]_64 is of an x below 2^64
abbrev pub StandardHash : Type 0
StandardHash = (H : ℕ) (A C : List ℕ) → len A < 2 ^ 64 → len C < 2 ^ 64 → algorithm2 H (string_of A C) ≡ ghash H A C

-- so the block that the call for a whole A and C returns is the standard's, wherever the call is not refused
abbrev pub StandardCall : Type 0
StandardCall =
    (key A C : List ℕ) → length key ≡ 16 → length A ≤ limit → length C ≤ limit
    → hash_block key A C ≡ algorithm2 (block_at key 0) (string_of A C)
