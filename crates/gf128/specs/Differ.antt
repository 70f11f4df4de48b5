-- Two lists of blocks that differ at exactly one place: document 01, "The field and the hash", of two messages.
-- Assumes nothing.
use Rattle.std.specs.Prelude.{◌≡◌, ◌≢◌, List, ℕ, ◌<◌, length, get_or}

-- equally long; at one place the blocks differ; at every other place they agree
pub record DifferOnce (xs ys : List ℕ) : Type 0 where
  pub lengths : length xs ≡ length ys
  pub place : ℕ
  pub inside : place < length xs
  pub differs : get_or xs place 0 ≢ get_or ys place 0
  pub agrees : (k : ℕ) → k ≢ place → get_or xs k 0 ≡ get_or ys k 0
