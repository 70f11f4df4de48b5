-- What an entry that gives a block answers: document 01's number, and the block's number.
-- Assumes nothing.
use Rattle.std.specs.Prelude.{List, ◌≡◌, ℕ, Result, Ok, Err}
use Rattle.gf128.specs.Entries.{product_refusal, product_block}
use Rattle.refusal.specs.Refusal.{number_of}
use Rattle.refusal.specs.declared.Refusal.{Refusal}
use Rattle.ghash_block.specs.declared.block.Block.{Block}
use Rattle.ghash_block.specs.Block.{value_of}

-- the block of an answer: zero on a refusal
abbrev pub block_of : Result Block Refusal → ℕ
block_of (Ok block) = value_of block
block_of (Err refusal) = 0

-- the answer has this number, and its block is this one
pub record Answers (number value : ℕ) (r : Result Block Refusal) : Type 0 where
  pub answer : number_of r ≡ number
  pub block : block_of r ≡ value

-- the product of a key and a block given as bytes, on either path
abbrev pub ProductAnswer : List ℕ → List ℕ → Result Block Refusal → Type 0
ProductAnswer key block r = Answers (product_refusal key block) (product_block key block) r
