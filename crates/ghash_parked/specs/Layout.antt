-- Where the fields of a parked record stand, and which layout a record's length tells. Document 02, Ask 6: "Y (16), open block (16),
-- A count (4), C count (4), phase (1), seven zero bytes".
-- Assumes nothing.
use Rattle.std.specs.Prelude.{ℕ, ◌+◌, cond, eqb, Option, Some, None}
use Rattle.ghash_parked.specs.declared.layout.Layout.{Layout}

-- counts of 4 bytes, seven spare bytes
abbrev pub counts4 : Layout
counts4 = record { count_bytes = 4; spare_bytes = 7 }

-- ---- the first byte of each field: where the one before it ends

abbrev pub at_y : ℕ
at_y = 0

abbrev pub at_block : ℕ
at_block = at_y + 16

abbrev pub at_count_a : ℕ
at_count_a = at_block + 16

abbrev pub at_count_c : Layout → ℕ
at_count_c l = at_count_a + l.count_bytes

abbrev pub at_phase : Layout → ℕ
at_phase l = at_count_c l + l.count_bytes

abbrev pub at_spare : Layout → ℕ
at_spare l = at_phase l + 1

-- how many bytes a record has
abbrev pub size : Layout → ℕ
size l = at_spare l + l.spare_bytes

-- which layout has this length
abbrev pub layout_of : ℕ → Option Layout
layout_of n = cond (eqb n (size counts4)) (Some counts4) None
