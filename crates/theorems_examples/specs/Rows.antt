-- A table of rows and what they say.
-- Assumes nothing.
use Rattle.std.specs.Prelude.{List, [], ◌∷◌}

-- every row of a list holds
abbrev pub AllHold : {A : Type 0} → (A → Type 0) → List A → Type 0
AllHold Holds [] = Unit {0}
AllHold Holds (row ∷ rows) = Holds row × AllHold Holds rows
