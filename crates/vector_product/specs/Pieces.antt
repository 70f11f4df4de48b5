-- The carry-less product from products of 8-bit pieces: document 02, Ask 2, and source 003 (vmull.p64 from vmull.p8).
-- Assumes nothing.
use Rattle.std.specs.Prelude.{ℕ, zero, suc, ◌+◌, ◌*◌, ◌/◌, ◌%◌, ◌^◌, ◌<◌, ◌≡◌, List, get_or}
use Rattle.std.specs.Int.Bits.{bit_xor}
use Rattle.vector_product.specs.Clmul.{clmul, clmul64, low_half, high_half}

-- piece i of a number: the 8 bits from bit 8·i up
abbrev pub piece : ℕ → ℕ → ℕ
piece i a = a / 2 ^ (8 * i) % 2 ^ 8

-- the product of two pieces, at most 15 bits: eight steps of the whole's recursion
unfoldable pub clmul8 : ℕ → ℕ → ℕ
clmul8 p q = clmul 8 p q

-- f 0, f 1 .. f (n - 1), xored
unfoldable pub sum : ℕ → (ℕ → ℕ) → ℕ
sum zero f = 0
sum (suc n) f = bit_xor (sum n f) (f n)

-- the products of a's first m pieces and b's first n, each at its place
abbrev pub sum_of_products : ℕ → ℕ → ℕ → ℕ → ℕ
sum_of_products m n a b = sum n (λ j. sum m (λ i. clmul8 (piece i a) (piece j b) * 2 ^ (8 * (i + j))))

-- for any number of pieces their products make up the whole product
abbrev pub WholeFromPieces : Type 0
WholeFromPieces = (m n a b : ℕ) → a < 2 ^ (8 * m) → clmul (8 * n) a b ≡ sum_of_products m n a b

-- of two 64-bit numbers the 64 products do, in both halves
pub record HalvesFromPieces (a b : ℕ) : Type 0 where
  pub low : low_half 64 (clmul64 a b) ≡ low_half 64 (sum_of_products 8 8 a b)
  pub high : high_half 64 (clmul64 a b) ≡ high_half 64 (sum_of_products 8 8 a b)

abbrev pub BothHalves : Type 0
BothHalves = (a b : ℕ) → a < 2 ^ 64 → HalvesFromPieces a b

-- ---- four products at once

-- n numbers in lanes of 16 bits: number k from bit 16·k up
abbrev pub lanes : ℕ → (ℕ → ℕ) → ℕ
lanes n f = sum n (λ k. f k * 2 ^ (16 * k))

-- what stands in lane k
abbrev pub lane : ℕ → ℕ → ℕ
lane k x = x / 2 ^ (16 * k) % 2 ^ 16

-- the pieces 0, 2, 4 and 6 of a
abbrev pub even_pieces : ℕ → ℕ
even_pieces a = lanes 4 (λ k. piece (2 * k) a)

-- their products with a piece q
abbrev pub even_products : ℕ → ℕ → ℕ
even_products a q = lanes 4 (λ k. clmul8 (piece (2 * k) a) q)

-- the lanes do not meet: lane k holds product k
abbrev pub LanesApart : Type 0
LanesApart = (a q k : ℕ) → k < 4 → lane k (even_products a q) ≡ clmul8 (piece (2 * k) a) q

-- a window: the products with the pieces 0 to 15
pub record Window (a : ℕ) (t : List ℕ) : Type 0 where
  pub entry : (n : ℕ) → n < 16 → get_or t n 0 ≡ even_products a n
