-- What a way to hash answers, and an answer counted.
-- Assumes nothing.
use Rattle.std.specs.Prelude.{List, ◌≡◌, ℕ}
use Rattle.gf128.specs.Entries.{hash_refusal, hash_block}
use Rattle.ghash_block.specs.Block.{value_of}
use Rattle.ghash_block.specs.declared.block.Block.{Block}
use Rattle.known_compare.specs.Counted.{counted, answer_is}
use Rattle.known_compare.specs.declared.compare.Seen.{Seen}
use Rattle.known_hashes.specs.Pieces.{InPieces}
use Rattle.known_hashes.specs.declared.hashes.Way.{Way}
use Rattle.known_hashes.specs.declared.hashes.Way.TheVariants.{Whole, Pieces}

-- the hash of a whole A and C under a key given as bytes
pub record HashedWhole (key a c : List ℕ) (r : Seen) : Type 0 where
  pub answer : r.number ≡ hash_refusal key a c
  pub block : value_of r.block ≡ hash_block key a c

-- the hash of A and C under a key given as bytes
abbrev pub hashed_by : Way → List ℕ → List ℕ → List ℕ → Seen → Type 0
hashed_by (Whole path) key a c r = HashedWhole key a c r
hashed_by (Pieces mix size) key a c r = InPieces key a c r

pub record HashedBy (way : Way) (key a c : List ℕ) (r : Seen) : Type 0 where
  pub hashed : hashed_by way key a c r

-- the answer is counted if it is this number with this block
pub record Counted (way : Way) (key a c : List ℕ) (agreed number : ℕ) (block : Block) (r : ℕ) : Type 0 where
  pub answer : Seen
  pub hashed : HashedBy way key a c answer
  pub counted : r ≡ counted agreed (answer_is answer number block)
