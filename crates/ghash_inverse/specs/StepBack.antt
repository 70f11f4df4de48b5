-- What the step back's entry on bytes promises.
-- Assumes nothing.
use Rattle.std.specs.Prelude.{◌≡◌, List, ℕ}
use Rattle.gf128.specs.Bytes.{block_at}
use Rattle.gf128.specs.Entries.{step_back_refusal}
use Rattle.gf128.specs.StepBack.{StepsBack}

-- the answer to three slices of bytes: 9 with the zero block, or what the step back promises of their blocks
pub record StepsBackBytes (key block later : List ℕ) (number answer : ℕ) : Type 0 where
  pub refused : step_back_refusal key block later ≡ 9 → (number ≡ 9) × (answer ≡ 0)
  pub done : step_back_refusal key block later ≡ 0 → StepsBack (block_at key 0) (block_at block 0) (block_at later 0) number answer
