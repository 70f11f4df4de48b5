-- Document 01, "Registers and settings", and the refusal numbers 1 and 3.
-- Assumes nothing.
use Rattle.std.specs.Prelude.{ℕ, ◌+◌, ◌*◌, ◌/◌, ◌%◌, Bool, not, ◌&&◌, ◌||◌, eqb, leb, ltb}
use Rattle.vector_registers.specs.declared.settings.Settings.{Settings}

-- ---- what is allowed, and what follows from it

abbrev pub vlen_allowed : ℕ → Bool
vlen_allowed vlen = eqb vlen 128 || (eqb vlen 256 || eqb vlen 512)

-- v is a, b, c or d
abbrev pub one_of : ℕ → ℕ → ℕ → ℕ → ℕ → Bool
one_of v a b c d = eqb v a || (eqb v b || (eqb v c || eqb v d))

abbrev pub sew_allowed : ℕ → Bool
sew_allowed sew = one_of sew 8 16 32 64

abbrev pub lmul_allowed : ℕ → Bool
lmul_allowed lmul = one_of lmul 1 2 4 8

-- how many registers a group has
abbrev pub group_registers : ℕ → ℕ
group_registers lmul = lmul

-- LMUL times a number
abbrev pub times_lmul : ℕ → ℕ → ℕ
times_lmul lmul n = lmul * n

-- VLMAX
abbrev pub vlmax : ℕ → ℕ → ℕ → ℕ
vlmax vlen sew lmul = times_lmul lmul vlen / sew

-- the bytes of a register, of the whole file, and of a register group
abbrev pub register_bytes : ℕ → ℕ
register_bytes vlen = vlen / 8

abbrev pub file_bytes : ℕ → ℕ
file_bytes vlen = 32 * vlen / 8

abbrev pub group_length : ℕ → ℕ → ℕ
group_length vlen lmul = group_registers lmul * register_bytes vlen

-- the group's number is no multiple of LMUL
abbrev pub misaligned : ℕ → ℕ → Bool
misaligned lmul register = not (eqb (register % group_registers lmul) 0)

-- the registers that a group occupies: its first, and those after it, as many as a group has. Whether a register is one of them
abbrev pub occupies : ℕ → ℕ → ℕ → Bool
occupies lmul first register = leb first register && ltb register (first + group_registers lmul)

-- ---- the numbers that no word is needed for, in the table's words

-- VLEN not allowed, or file length not 32·VLEN/8
abbrev pub applies1 : ℕ → ℕ → Bool
applies1 file_length vlen = not (vlen_allowed vlen) || not (eqb file_length (file_bytes vlen))

-- SEW or LMUL not allowed, or vl over VLMAX
abbrev pub applies3 : Settings → Bool
applies3 s =
    not (sew_allowed s.sew)
    || (not (lmul_allowed s.lmul) || ltb (vlmax s.vlen s.sew s.lmul) s.vl)

-- ---- for statements: the same settings with other policies (document 02, Ask 5)

abbrev pub with_policies : Bool → Bool → Settings → Settings
with_policies vta vma s =
    record { vlen = s.vlen; sew = s.sew; lmul = s.lmul; vta = vta; vma = vma; vl = s.vl; vstart = s.vstart }
