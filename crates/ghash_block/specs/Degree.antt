-- Document 01's number and place for what `degree` answers.
-- Assumes nothing.
use Rattle.std.specs.Prelude.{ℕ, Option, Some, None}

-- 12 where there is no place
abbrev pub place_number : Option ℕ → ℕ
place_number (Some place) = 0
place_number None = 12

-- the place; 0 beside a 12
abbrev pub place_or_zero : Option ℕ → ℕ
place_or_zero (Some place) = place
place_or_zero None = 0
