-- The inverse of a key, and the rows of the division that finds it.
-- Assumes nothing.
use Rattle.std.specs.Prelude.{◌≢◌, ◌≡◌, ℕ, suc, ◌-◌, ◌%◌, ◌^◌, ◌<◌, Option, Some, None}
use Rattle.ghash_block.specs.declared.block.Block.{Block}
use Rattle.ghash_block.specs.Block.{value_of}
use Rattle.gf128.specs.Degree.{degree_of}
use Rattle.gf128.specs.Field.{product, one}

-- what the answer for the key h promises: the inverse, or none for the zero key
abbrev pub Inverts : ℕ → Option Block → Type 0
Inverts h (Some b) = (product (value_of b) h ≡ one) × (h ≢ 0)
Inverts h None = h ≡ 0

-- a row: the key times the factor is the value, which is not zero and of degree d
pub record IsRow (h value factor d : ℕ) : Type 0 where
  pub product : product h factor ≡ value
  pub block : factor < 2 ^ 128
  pub positive : value ≢ 0
  pub degree : d ≡ degree_of value

-- the rows (a, s) and (b, t) of a division, with e, the degree of b, above 0. The factor s ends in a 1 and e - 1 zeros, and t in at least
-- d zeros, so that no turn makes a zero
pub record Divides (h a s d b t e : ℕ) : Type 0 where
  pub key : h ≢ 0
  pub block : h < 2 ^ 128
  pub first : IsRow h a s d
  pub second : IsRow h b t e
  pub above : 0 < e
  pub first_ends : s % 2 ^ suc (e - 1) ≡ 2 ^ (e - 1)
  pub second_ends : t % 2 ^ d ≡ 0
