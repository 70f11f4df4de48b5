-- The degree of a block: document 01, "The degree of a block is the place of its highest nonzero coefficient, 0 to 127".
-- Assumes nothing.
use Rattle.std.specs.Prelude.{ℕ, zero, suc, cond, List, eqb, length}
use Rattle.gf128.specs.Bytes.{block_at}
use Rattle.gf128.specs.Field.{coefficient}

-- the highest nonzero coefficient's place among places 0 to n - 1, or 0
unfoldable pub highest : ℕ → ℕ → ℕ
highest u zero = 0
highest u (suc n) = cond (eqb (coefficient u n) 0) (highest u n) n

unfoldable pub degree_of : ℕ → ℕ
degree_of u = highest u 128

-- number 12: the zero block has no degree, and the place is then 0
abbrev pub degree_refusal : ℕ → ℕ
degree_refusal u = cond (eqb u 0) 12 0

-- the degree of a block given as bytes: 9 for another length, 12 for the zero block
abbrev pub degree_number : List ℕ → ℕ
degree_number block = cond (eqb (length block) 16) (degree_refusal (block_at block 0)) 9

-- the place, which is 0 on a refusal
abbrev pub degree_place : List ℕ → ℕ
degree_place block = cond (eqb (length block) 16) (degree_of (block_at block 0)) 0
