-- Where elements of a register group lie, and mask bits: document 01, "Registers and settings".
-- Assumes nothing.
use Rattle.std.specs.Prelude.{ℕ, ◌+◌, ◌*◌, ◌/◌, ◌%◌, ◌^◌, Bool, ◌||◌, List, eqb, get_or}
use Rattle.vector_registers.specs.Settings.{register_bytes}
use Rattle.vector_word.specs.declared.Fields.{Fields}

-- where element i of the group at a register starts: r·VLEN/8 + i·SEW/8
abbrev pub element_at : ℕ → ℕ → ℕ → ℕ → ℕ
element_at vlen sew register i = register * register_bytes vlen + i * (sew / 8)

-- where group i of 128 bits starts: r·VLEN/8 + 16i
abbrev pub block_place : ℕ → ℕ → ℕ → ℕ
block_place vlen register i = register * register_bytes vlen + 16 * i

-- mask bit i: bit i mod 8 of byte i div 8 of register 0
unfoldable pub mask_bit : List ℕ → ℕ → ℕ
mask_bit file i = get_or file (i / 8) 0 / 2 ^ (i % 8) % 2

-- an element is active where vm is 1 or its mask bit is 1
abbrev pub active : Fields → List ℕ → ℕ → Bool
active f file i = eqb f.vm 1 || eqb (mask_bit file i) 1
