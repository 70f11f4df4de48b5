-- What the hash of a whole message answers.
-- Assumes nothing.
use Rattle.std.specs.Prelude.{List, ℕ, Result}
use Rattle.gf128.specs.Entries.{hash_refusal, hash_block}
use Rattle.ghash_block.specs.Answer.{Answers}
use Rattle.ghash_block.specs.declared.block.Block.{Block}
use Rattle.refusal.specs.declared.Refusal.{Refusal}

-- the hash of A and C under a key given as bytes, on either path
abbrev pub HashAnswer : List ℕ → List ℕ → List ℕ → Result Block Refusal → Type 0
HashAnswer key a c r = Answers (hash_refusal key a c) (hash_block key a c) r
