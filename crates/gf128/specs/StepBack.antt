-- The step back (document 01's term): from the key H, the block X and the later partial hash Y1, the earlier one Y.
-- All is said by the forward product, bit by bit.
-- Assumes nothing.
use Rattle.std.specs.Prelude.{◌≢◌, ◌↔◌, ◌≡◌, ℕ, ◌<◌, ◌^◌}
use Rattle.std.specs.Int.Bits.{bit_xor}
use Rattle.gf128.specs.Field.{product}

-- any 16 bytes
abbrev pub IsBlock : ℕ → Type 0
IsBlock y = y < 2 ^ 128

-- Y leads to Y1 when the product of Y xor X with H is Y1
abbrev pub Leads : ℕ → ℕ → ℕ → ℕ → Type 0
Leads h x y1 y = product (bit_xor y x) h ≡ y1

-- Y leads there, and every other block does not
pub record OnlyEarlier (h x y1 y : ℕ) : Type 0 where
  pub leads : Leads h x y1 y
  pub no_other : (z : ℕ) → IsBlock z → z ≢ y → Leads h x y1 z → ⊥

-- no block does
pub record NoEarlier (h x y1 : ℕ) : Type 0 where
  pub no_block : (z : ℕ) → IsBlock z → Leads h x y1 z → ⊥

-- at least two different blocks do
pub record ManyEarlier (h x y1 : ℕ) : Type 0 where
  pub first : ℕ
  pub second : ℕ
  pub differ : first ≢ second
  pub first_block : IsBlock first
  pub second_block : IsBlock second
  pub first_leads : Leads h x y1 first
  pub second_leads : Leads h x y1 second

-- what the answer, a number and a block, promises: 0 with Y, 12 "none" and 13 "many", each exactly when it is so
pub record StepsBack (h x y1 number block : ℕ) : Type 0 where
  pub earlier : (y : ℕ) → IsBlock y → ((number ≡ 0) × (block ≡ y)) ↔ OnlyEarlier h x y1 y
  pub none : (number ≡ 12) ↔ NoEarlier h x y1
  pub many : (number ≡ 13) ↔ ManyEarlier h x y1
  pub zeroed : number ≢ 0 → block ≡ 0
