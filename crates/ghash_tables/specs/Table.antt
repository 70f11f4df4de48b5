-- The tables of the fast path (document 01: four coefficients at a time), as one array of 144 numbers: for each q below 4
-- the sixteen multiples of the key times x ^ (32 · q), then the sixteen reductions of a four-bit overflow.
-- Assumes nothing.
use Rattle.std.specs.Prelude.{◌≡◌, List, [], ◌∷◌, ℕ, ◌+◌, ◌*◌, ◌%◌, ◌^◌, ◌<◌, ◌≤◌, get_or}
use Rattle.std.specs.Int.Bits.{bit_xor}
use Rattle.ghash_block.specs.declared.block.Block.{Block}
use Rattle.gf128.specs.Field.{product, shifted}

-- a block as two numbers of the array, the high half first
abbrev pub pair_at : List ℕ → ℕ → ℕ
pair_at t i = get_or t i 0 * 2 ^ 64 + get_or t (i + 1) 0

-- the block whose first four coefficients are the number n, and no others
abbrev pub nibble : ℕ → ℕ
nibble n = n * 2 ^ 124

-- the sixteen reductions from `at` on. An overflow n is the block n, whose four coefficients at places 124 to 127 leave. Its reduction comes back in the
-- first coefficients, and the last 32 of its half are zeros: 32 places later it is still whole in its half
pub record ReductionsAt (at : ℕ) (t : List ℕ) : Type 0 where
  pub overflow : (n : ℕ) → n < 16 → get_or t (at + n) 0 * 2 ^ 64 ≡ shifted n 4
  pub zeros : (n : ℕ) → n < 16 → get_or t (at + n) 0 % 2 ^ 32 ≡ 0

-- they are the array's last sixteen numbers
abbrev pub ReductionsIn : List ℕ → Type 0
ReductionsIn t = ReductionsAt 128 t

-- the first k tables, entry n of table q, and the reductions
pub record TablesTo (k h : ℕ) (t : List ℕ) : Type 0 where
  pub entry : (q n : ℕ) → q < k → n < 16 → pair_at t (32 * q + 2 * n) ≡ product (nibble n) (shifted h (32 * q))
  pub reductions : ReductionsIn t

-- all of it
pub record TableOf (h : ℕ) (t : List ℕ) : Type 0 where
  pub whole : TablesTo 4 h t

-- an entry of each table, added
abbrev pub entries_of : ℕ → ℕ → ℕ → ℕ → ℕ → ℕ
entries_of h a b c d =
    bit_xor (bit_xor (product (nibble a) (shifted h 0)) (product (nibble b) (shifted h 32)))
    (bit_xor (product (nibble c) (shifted h 64)) (product (nibble d) (shifted h 96)))

-- ---- the parts, as they are filled

-- t' is t with the reductions in place
pub record ReductionsPut (t t' : List ℕ) : Type 0 where
  pub reductions : ReductionsIn t'
  pub below : (i : ℕ) → i < 128 → get_or t' i 0 ≡ get_or t i 0

-- b, b xor h1, b xor h2, b xor h2 xor h1, as eight numbers
abbrev pub four_of : Block → Block → Block → List ℕ
four_of b h1 h2 =
    b.0 ∷ b.1
    ∷ bit_xor b.0 h1.0 ∷ bit_xor b.1 h1.1
    ∷ bit_xor b.0 h2.0 ∷ bit_xor b.1 h2.1
    ∷ bit_xor (bit_xor b.0 h2.0) h1.0 ∷ bit_xor (bit_xor b.1 h2.1) h1.1
    ∷ []

-- t' is t with the first k multiples of h from `at` on
pub record MultiplesPut (t : List ℕ) (at h k : ℕ) (t' : List ℕ) : Type 0 where
  pub entry : (n : ℕ) → n < k → pair_at t' (at + 2 * n) ≡ product (nibble n) h
  pub below : (i : ℕ) → i < at → get_or t' i 0 ≡ get_or t i 0
  pub above : (i : ℕ) → at + 2 * k ≤ i → get_or t' i 0 ≡ get_or t i 0
