-- Document 01: "Asked for a register group, the library hands back that group's own bytes of the lent file."
-- Assumes nothing.
use Rattle.std.specs.Prelude.{ℕ, ◌*◌, cond, not, ◌||◌, List, eqb, ltb, length, take, drop}
use Rattle.vector_group.specs.declared.Part.{Part}
use Rattle.vector_registers.specs.Settings.{applies1, lmul_allowed, misaligned, register_bytes, group_length}

-- the separate question: 1 as in the table, 3 if LMUL isn't allowed, 6 if the register is over 31 or no multiple of LMUL, else 0
unfoldable pub group_refusal : ℕ → ℕ → ℕ → ℕ → ℕ
group_refusal vlen file_length lmul register =
    cond (applies1 file_length vlen) 1
    (cond (not (lmul_allowed lmul)) 3
    (cond (ltb 31 register || misaligned lmul register) 6 0))

-- the part of the file that is handed back: where it starts and how many bytes it has; 0 and 0 where the number is not 0
abbrev pub part_start : ℕ → ℕ → ℕ → ℕ → ℕ
part_start vlen file_length lmul register =
    cond (eqb (group_refusal vlen file_length lmul register) 0) (register * register_bytes vlen) 0

abbrev pub part_length : ℕ → ℕ → ℕ → ℕ → ℕ
part_length vlen file_length lmul register =
    cond (eqb (group_refusal vlen file_length lmul register) 0) (group_length vlen lmul) 0

-- the two together, and what stands for no part
abbrev pub part_of : ℕ → ℕ → ℕ → ℕ → Part
part_of vlen file_length lmul register = record {
  start = part_start vlen file_length lmul register;
  length = part_length vlen file_length lmul register;
}

abbrev pub nowhere : Part
nowhere = record { start = 0; length = 0 }

-- the part's bytes
unfoldable pub group_of : ℕ → List ℕ → ℕ → ℕ → List ℕ
group_of vlen file lmul register =
    take (part_length vlen (length file) lmul register) (drop (part_start vlen (length file) lmul register) file)
