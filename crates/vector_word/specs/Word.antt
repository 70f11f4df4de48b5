-- Document 01, "The eight words": the fields of a 32-bit word, and the table of the words, a row a line.
-- Assumes nothing.
use Rattle.std.specs.Prelude.{ℕ, ◌/◌, ◌%◌, ◌^◌, Bool, true, cond, ◌&&◌, List, [], ◌∷◌, eqb, Option, Some, None}
use Rattle.vector_kind.specs.declared.Kind.{Kind}
use Rattle.vector_kind.specs.declared.Kind.TheVariants.{VclmulVv, VclmulVx, VclmulhVv, VclmulhVx, VghshVv, VghshVs, VgmulVv, VgmulVs}
use Rattle.vector_kind.specs.Kinds.{kinds}
use Rattle.vector_word.specs.declared.Fields.{Fields}
use Rattle.vector_word.specs.declared.Instruction.{Instruction}
use Rattle.vector_word.specs.declared.Row.{Row}

-- the n bits of a word from bit `low` on
abbrev pub bits : ℕ → ℕ → ℕ → ℕ
bits word low n = word / 2 ^ low % 2 ^ n

-- high bit to low: funct6 (6), vm (1), vs2 (5), vs1 or rs1 (5), funct3 (3), vd (5), opcode (7)
abbrev pub funct6_of : ℕ → ℕ
funct6_of word = bits word 26 6

abbrev pub vm_of : ℕ → ℕ
vm_of word = bits word 25 1

abbrev pub vs2_of : ℕ → ℕ
vs2_of word = bits word 20 5

abbrev pub vs1_of : ℕ → ℕ
vs1_of word = bits word 15 5

abbrev pub funct3_of : ℕ → ℕ
funct3_of word = bits word 12 3

abbrev pub vd_of : ℕ → ℕ
vd_of word = bits word 7 5

abbrev pub opcode_of : ℕ → ℕ
opcode_of word = bits word 0 7

-- what a row of the table says, column by column; None where any value is allowed
abbrev pub row_with : ℕ → Option ℕ → Option ℕ → ℕ → ℕ → Row
row_with funct6 vm vs1 funct3 opcode =
    record { funct6 = funct6; vm = vm; vs1 = vs1; funct3 = funct3; opcode = opcode }

-- the table: funct6, vm, vs1 field, funct3, opcode
abbrev pub row : Kind → Row
row VclmulVv = row_with 0b001100 None None 0b010 0b1010111
row VclmulVx = row_with 0b001100 None None 0b110 0b1010111
row VclmulhVv = row_with 0b001101 None None 0b010 0b1010111
row VclmulhVx = row_with 0b001101 None None 0b110 0b1010111
row VghshVv = row_with 0b101100 (Some 1) None 0b010 0b1110111
row VghshVs = row_with 0b100011 (Some 1) None 0b010 0b1110111
row VgmulVv = row_with 0b101000 (Some 1) (Some 0b10001) 0b010 0b1110111
row VgmulVs = row_with 0b101001 (Some 1) (Some 0b10001) 0b010 0b1110111

abbrev pub allows : Option ℕ → ℕ → Bool
allows None v = true
allows (Some n) v = eqb v n

-- the word has the row's fields
abbrev pub is_row : Row → ℕ → Bool
is_row r word =
    eqb (funct6_of word) r.funct6
    && (allows r.vm (vm_of word)
    && (allows r.vs1 (vs1_of word)
    && (eqb (funct3_of word) r.funct3 && eqb (opcode_of word) r.opcode)))

abbrev pub fields_of : ℕ → Fields
fields_of word = record { vm = vm_of word; vs2 = vs2_of word; vs1 = vs1_of word; vd = vd_of word }

-- a kind with its fields
abbrev pub instruction : Kind → Fields → Instruction
instruction k f = record { kind = k; fields = f }

-- the word as one of this kind where it has the kind's row, else as given
abbrev pub as_kind : Kind → ℕ → Option Instruction → Option Instruction
as_kind k word other = cond (is_row (row k) word) (Some (instruction k (fields_of word))) other

-- the first of these kinds whose row the word has
abbrev pub among : List Kind → ℕ → Option Instruction
among [] word = None
among (k ∷ ks) word = as_kind k word (among ks word)

unfoldable pub decode : ℕ → Option Instruction
decode word = among kinds word
