-- A table of rows holds (`all-show`) if one test of a row, computed over the table, shows what the row says.
-- Assumes nothing.
use Rattle.std.proofs.Common.{Bool, true, ◌&&◌, List, [], ◌∷◌, T}
use Rattle.gf128.proofs.Tests.{and_left, and_right}
use Rattle.theorems_examples.specs.Rows.{AllHold}

unfoldable pub all_right : {A : Type 0} → (A → Bool) → List A → Bool
all_right right [] = true
all_right right (row ∷ rows) = right row && all_right right rows

pub all-show : {A : Type 0} (Holds : A → Type 0) (right : A → Bool) → ((row : A) → T (right row) → Holds row)
    → (rows : List A) → T (all_right right rows) → AllHold Holds rows
unfolding all_right
all-show Holds right shows [] t = tt
all-show Holds right shows (row ∷ rows) t =
    (shows row (and_left (right row) (all_right right rows) t), all-show Holds right shows rows (and_right (right row) (all_right right rows) t))
