-- A whole message in pieces, fed to a fresh running hash under one key: document 01's demand 2.
-- The calls of the plain and of the fast path are proved equal to these definitions, so each call of a run may take either path.
-- Assumes nothing.
use Rattle.std.specs.Prelude.{ℕ, ◌+◌, ◌≤◌, ◌≡◌, List, [], ◌∷◌, ◌++◌, length, replicate}
use Rattle.gf128.specs.Bytes.{block_at}
use Rattle.gf128.specs.Entries.{hash_block}
use Rattle.gf128.specs.Hash.{ghash, limit}
use Rattle.gf128.specs.Running.{State, no_bytes, fresh, feed_a_refusal, feed_c_refusal, finish_refusal, after_feed_a, after_feed_c, after_finish, finish_block}

-- the whole that pieces make up
unfoldable pub joined : List (List ℕ) → List ℕ
joined [] = []
joined (p ∷ ps) = p ++ joined ps

-- the state after a row of calls, one for each piece
unfoldable pub fed_all : (State → List ℕ → State) → State → List (List ℕ) → State
fed_all feed s [] = s
fed_all feed s (p ∷ ps) = fed_all feed (feed s p) ps

-- the number that each of them answers
unfoldable pub answers : (State → List ℕ → ℕ) → (State → List ℕ → State) → State → List (List ℕ) → List ℕ
answers number feed s [] = []
answers number feed s (p ∷ ps) = number s p ∷ answers number feed (feed s p) ps

abbrev pub fed_all_a : List ℕ → State → List (List ℕ) → State
fed_all_a key = fed_all (after_feed_a key)

abbrev pub answers_a : List ℕ → State → List (List ℕ) → List ℕ
answers_a key = answers (feed_a_refusal key) (after_feed_a key)

abbrev pub fed_all_c : List ℕ → State → List (List ℕ) → State
fed_all_c key = fed_all (after_feed_c key)

abbrev pub answers_c : List ℕ → State → List (List ℕ) → List ℕ
answers_c key = answers (feed_c_refusal key) (after_feed_c key)

-- what a run gives: the number of each call in order, the block that finishing returns, and the last state
pub record Run : Type 0 where
  pub numbers : List ℕ
  pub block : ℕ
  pub state : State

-- the A pieces, then the C pieces, perhaps none of either, then the finish
unfoldable pub run_of : List ℕ → List (List ℕ) → List (List ℕ) → Run
run_of key ps qs =
    let a = fed_all_a key fresh ps in
    let c = fed_all_c key a qs in
    record {
      numbers = answers_a key fresh ps ++ (answers_c key a qs ++ (finish_refusal key c ∷ []));
      block = finish_block key c;
      state = after_finish key c;
    }

-- demand 2: every call is taken, and the finish gives the hash of the whole A and C, which is then also Y
pub record HashOfWhole (key : List ℕ) (ps qs : List (List ℕ)) : Type 0 where
  pub taken : (run_of key ps qs).numbers ≡ replicate (length ps + (length qs + 1)) 0
  pub hash : (run_of key ps qs).block ≡ ghash (block_at key 0) (joined ps) (joined qs)
  pub end : (run_of key ps qs).state
      ≡ record { y = ghash (block_at key 0) (joined ps) (joined qs); block = no_bytes; count_a = length (joined ps); count_c = length (joined qs); phase = 2 }

-- any cut of an A and a C within the limit into any pieces, empty ones too, perhaps none, gives the hash of the whole
abbrev pub AnyPieces : Type 0
AnyPieces =
    (key : List ℕ) (ps qs : List (List ℕ)) → length key ≡ 16 → length (joined ps) ≤ limit → length (joined qs) ≤ limit → HashOfWhole key ps qs

-- so the finish gives the block that the call for a whole A and C returns
abbrev pub PiecesAsWhole : Type 0
PiecesAsWhole =
    (key : List ℕ) (ps qs : List (List ℕ)) → length key ≡ 16 → length (joined ps) ≤ limit → length (joined qs) ≤ limit
    → (run_of key ps qs).block ≡ hash_block key (joined ps) (joined qs)
