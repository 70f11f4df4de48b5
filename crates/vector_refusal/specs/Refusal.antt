-- Document 01, "Refusal numbers" 0 to 8. Where several apply the smallest is given.
-- Assumes nothing.
use Rattle.std.specs.Prelude.{ℕ, ◌%◌, Bool, cond, not, ◌&&◌, ◌||◌, List, [], ◌∷◌, Option, Some, None, eqb}
use Rattle.vector_registers.specs.declared.settings.Settings.{Settings}
use Rattle.vector_registers.specs.Settings.{misaligned, occupies, applies1, applies3}
use Rattle.vector_kind.specs.declared.Kind.{Kind}
use Rattle.vector_word.specs.declared.Fields.{Fields}
use Rattle.vector_word.specs.declared.Instruction.{Instruction}
use Rattle.vector_kind.specs.Kinds.{is_ghash, is_vv, is_vs, has_vs1_group}
use Rattle.vector_word.specs.Word.{decode}

-- ---- the other numbers, in the table's words

-- a GHASH word and SEW is not 32
abbrev pub applies4 : Kind → Settings → Bool
applies4 k s = is_ghash k && not (eqb s.sew 32)

-- a GHASH word and vl or vstart no multiple of 4
abbrev pub applies5 : Kind → Settings → Bool
applies5 k s = is_ghash k && (not (eqb (s.vl % 4) 0) || not (eqb (s.vstart % 4) 0))

-- a register group's number is no multiple of LMUL: vd; vs2 except in .vs words; vs1 where it is a group
abbrev pub applies6 : Kind → Fields → Settings → Bool
applies6 k f s =
    misaligned s.lmul f.vd
    || ((not (is_vs k) && misaligned s.lmul f.vs2) || (has_vs1_group k && misaligned s.lmul f.vs1))

-- a .vs word and vd ≤ vs2 < vd + LMUL (document 02, Ask 4)
abbrev pub applies7 : Kind → Fields → Settings → Bool
applies7 k f s = is_vs k && occupies s.lmul f.vd f.vs2

-- vm is 0 and vd, vs2 or (.vv) vs1 is register 0
abbrev pub applies8 : Kind → Fields → Bool
applies8 k f = eqb f.vm 0 && (eqb f.vd 0 || (eqb f.vs2 0 || (is_vv k && eqb f.vs1 0)))

-- ---- the smallest that applies, or 0

-- the first number that is given, else 0
abbrev pub first_given : List (Bool × ℕ) → ℕ
first_given [] = 0
first_given ((given, number) ∷ rest) = cond given number (first_given rest)

-- the numbers of a known word, and when each is given
abbrev pub numbers_of_known : Kind → Fields → Settings → List (Bool × ℕ)
numbers_of_known k f s =
    (applies3 s, 3)
    ∷ (applies4 k s, 4)
    ∷ (applies5 k s, 5)
    ∷ (applies6 k f s, 6)
    ∷ (applies7 k f s, 7)
    ∷ (applies8 k f, 8)
    ∷ []

unfoldable pub refusal_of_known : Kind → Fields → Settings → ℕ
refusal_of_known k f s = first_given (numbers_of_known k f s)

-- 2: the word is none of the eight
abbrev pub refusal_of_word : Option Instruction → Settings → ℕ
refusal_of_word None s = 2
refusal_of_word (Some i) s = refusal_of_known i.kind i.fields s

-- the number of a decoded word on a file of this length, and of a word
abbrev pub refusal_of_decoded : ℕ → Option Instruction → Settings → ℕ
refusal_of_decoded file_length w s = cond (applies1 file_length s.vlen) 1 (refusal_of_word w s)

unfoldable pub refusal_of : ℕ → ℕ → Settings → ℕ
refusal_of file_length word s = refusal_of_decoded file_length (decode word) s
