-- A message in pieces, as the program feeds it: some pieces that make up A and some that make up C.
-- Assumes nothing.
use Rattle.std.specs.Prelude.{List, [], ◌∷◌, ◌++◌, ◌≡◌, ℕ}
use Rattle.std.specs.Int.Bits.{bit_or}
use Rattle.gf128.specs.Pieces.{joined, fed_all, answers, fed_all_a, answers_a, fed_all_c, answers_c, run_of}
use Rattle.gf128.specs.Running.{State, fresh, feed_a_refusal, feed_c_refusal, finish_refusal, after_feed_a, after_feed_c}
use Rattle.ghash_block.specs.Block.{value_of}
use Rattle.ghash_running.specs.Answers.{Updates}
use Rattle.ghash_state.specs.State.{view}
use Rattle.ghash_state.specs.declared.Running.{Running}
use Rattle.known_compare.specs.declared.compare.Seen.{Seen}
use Rattle.known_hashes.specs.declared.pieces.SoFar.{SoFar}
use Rattle.known_hashes.specs.declared.pieces.Part.{Part}
use Rattle.known_hashes.specs.declared.pieces.Part.TheVariants.{A, C}

-- the number that a piece of A or of C is answered with, and the state after it
abbrev pub refusal_in : Part → List ℕ → State → List ℕ → ℕ
refusal_in A key = feed_a_refusal key
refusal_in C key = feed_c_refusal key

abbrev pub after_in : Part → List ℕ → State → List ℕ → State
after_in A key = after_feed_a key
after_in C key = after_feed_c key

abbrev pub FeedsIn : Part → List ℕ → Running → List ℕ → SoFar → Type 0
FeedsIn part key s piece r = Updates (refusal_in part key (view s) piece) (after_in part key (view s) piece) s r.number r.state

-- the last number of a list, n where it is empty
unfoldable pub last_or : ℕ → List ℕ → ℕ
last_or n [] = n
last_or n (m ∷ ms) = last_or m ms

-- s was fed in some pieces after `before`; r is the answer to the last of them
pub record FedIn (part : Part) (key : List ℕ) (before : SoFar) (s : List ℕ) (r : SoFar) : Type 0 where
  pub pieces : List (List ℕ)
  pub whole : joined pieces ≡ s
  pub state : view r.state ≡ fed_all (after_in part key) (view before.state) pieces
  pub number : r.number ≡ last_or before.number (answers (refusal_in part key) (after_in part key) (view before.state) pieces)

-- the number of the last piece of all
abbrev pub last_number : List ℕ → List (List ℕ) → List (List ℕ) → ℕ
last_number key ps qs = last_or 0 (answers_a key fresh ps ++ answers_c key (fed_all_a key fresh ps) qs)

-- A and C were fed in some pieces to a fresh running hash
pub record FedAll (key a c : List ℕ) (r : SoFar) : Type 0 where
  pub in_a : List (List ℕ)
  pub in_c : List (List ℕ)
  pub whole_a : joined in_a ≡ a
  pub whole_c : joined in_c ≡ c
  pub state : view r.state ≡ fed_all_c key (fed_all_a key fresh in_a) in_c
  pub number : r.number ≡ last_number key in_a in_c

-- the hash of A and C in some pieces, with the number of the last piece or of the end
pub record InPieces (key a c : List ℕ) (r : Seen) : Type 0 where
  pub in_a : List (List ℕ)
  pub in_c : List (List ℕ)
  pub whole_a : joined in_a ≡ a
  pub whole_c : joined in_c ≡ c
  pub block : value_of r.block ≡ (run_of key in_a in_c).block
  pub number : r.number ≡ bit_or (last_number key in_a in_c) (finish_refusal key (fed_all_c key (fed_all_a key fresh in_a) in_c))
