-- Cuts of a message that the statement on pieces must reach, under every key: with empty pieces and no C (`no-c`), with no A (`no-a`),
-- with A and C at the limit (`at-limit`). A condition more in `AnyPieces` leaves one of them without proof.
-- Assumes nothing.
use mathlib.Core.Path.{◌≡◌}
use mathlib.Core.List.{List, [], ◌∷◌, ◌++◌, append-nil}
use Prim.Native.Nat.{ℕ, ◌≤◌}
use native.Mathlib.Nat.{le_of_eq}
use lib.Dec.{lit≤}
use lib.ListN.{length}
use Rattle.gf128.specs.Hash.{limit}
use Rattle.gf128.specs.Pieces.{joined, HashOfWhole}
use Rattle.gf128.proofs.Running.{any-pieces}

-- A with empty pieces first and last, and no C
pub no-c : (key : List ℕ) → length key ≡ 16 → HashOfWhole key ([] ∷ (0x01 ∷ 0x02 ∷ []) ∷ [] ∷ []) []
unfolding joined
no-c key k = any-pieces key ([] ∷ (0x01 ∷ 0x02 ∷ []) ∷ [] ∷ []) [] k (lit≤ tt) (lit≤ tt)

-- no A, and a C of empty pieces alone
pub no-a : (key : List ℕ) → length key ≡ 16 → HashOfWhole key [] ([] ∷ [] ∷ [])
unfolding joined
no-a key k = any-pieces key [] ([] ∷ [] ∷ []) k (lit≤ tt) (lit≤ tt)

-- A and C at the limit, each in one piece
pub at-limit : (key a c : List ℕ) → length key ≡ 16 → length a ≡ limit → length c ≡ limit → HashOfWhole key (a ∷ []) (c ∷ [])
unfolding joined
at-limit key a c k la lc = any-pieces key (a ∷ []) (c ∷ []) k (one_piece a la) (one_piece c lc)
  where
    one_piece : (s : List ℕ) → length s ≡ limit → length (s ++ []) ≤ limit
    one_piece s l = rw append-nil (le_of_eq l)
