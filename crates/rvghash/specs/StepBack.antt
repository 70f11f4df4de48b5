-- The step back into a lent `out`.
-- Assumes nothing.
use Rattle.std.specs.Prelude.{◌≡◌, List, ℕ, length}
use Rattle.gf128.specs.Bytes.{block_bytes}
use Rattle.ghash_inverse.specs.StepBack.{StepsBackBytes}

-- an `out` not 16 bytes long is 9 and stays; else it holds the bytes of a block that the step back's answer promises
pub record StepsBackInto (key block later out : List ℕ) (number : ℕ) (out' : List ℕ) : Type 0 where
  pub other : (length out ≡ 16 → ⊥) → (number ≡ 9) × (out' ≡ out)
  pub into : length out ≡ 16 → (v : ℕ) × ((out' ≡ block_bytes v) × StepsBackBytes key block later number v)
