-- One case more, where it agrees; and when an answer does.
-- Assumes nothing.
use Rattle.std.specs.Prelude.{ℕ, ◌+◌, ◌%◌, ◌^◌, Bool, cond, ◌&&◌, ◌==◌, ◌≡◌, Result}
use Rattle.ghash_block.specs.Answer.{block_of}
use Rattle.ghash_block.specs.Block.{value_of}
use Rattle.ghash_block.specs.declared.block.Block.{Block}
use Rattle.refusal.specs.Refusal.{number_of}
use Rattle.refusal.specs.declared.Refusal.{Refusal}
use Rattle.known_compare.specs.declared.compare.Seen.{Seen}

abbrev pub counted : ℕ → Bool → ℕ
counted agreed ok = cond ok ((agreed + 1) % 2 ^ 64) agreed

-- the answer is this number with this block
abbrev pub answer_is : Seen → ℕ → Block → Bool
answer_is a number block = (a.number == number && a.block.0 == block.0) && a.block.1 == block.1

-- what is seen of a call's answer: its number, and its block, zero on a refusal
pub record IsSeen (answer : Result Block Refusal) (s : Seen) : Type 0 where
  pub number : s.number ≡ number_of answer
  pub block : value_of s.block ≡ block_of answer
