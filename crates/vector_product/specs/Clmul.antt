-- Carry-less products: document 01, "Execution", and source 002's pseudocode. One definition serves every width.
-- Assumes nothing.
use Rattle.std.specs.Prelude.{ℕ, zero, suc, ◌*◌, ◌/◌, ◌%◌, ◌^◌}
use Rattle.std.specs.Int.Bits.{bit_xor}
use Rattle.vector_product.specs.declared.clmul.Half.{Half}
use Rattle.vector_product.specs.declared.clmul.Half.TheVariants.{Low, High}

-- if bit i of b is 1, the product is xored with a moved up by i, for each i below n
unfoldable pub clmul : ℕ → ℕ → ℕ → ℕ
clmul zero a b = 0
clmul (suc n) a b = bit_xor (clmul n a b) (b / 2 ^ n % 2 * (a * 2 ^ n))

-- the whole product of two numbers of at most 64 bits
unfoldable pub clmul64 : ℕ → ℕ → ℕ
clmul64 a b = clmul 64 a b

-- the low SEW bits, and the bits from SEW up, as SEW bits
abbrev pub low_half : ℕ → ℕ → ℕ
low_half sew p = p % 2 ^ sew

abbrev pub high_half : ℕ → ℕ → ℕ
high_half sew p = p / 2 ^ sew % 2 ^ sew

-- the half of the product that is kept
abbrev pub half_of : Half → ℕ → ℕ → ℕ
half_of Low sew p = low_half sew p
half_of High sew p = high_half sew p
