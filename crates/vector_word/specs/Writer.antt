-- The writer: from a kind and its fields to the 32-bit word, by the rows of document 01's table (document 02, Ask 1).
-- Assumes nothing.
use Rattle.std.specs.Prelude.{ℕ, ◌+◌, ◌*◌, ◌^◌, ◌<◌, Bool, cond, ◌&&◌, ◌≡◌, ltb, Result, Ok, Err, Some}
use Rattle.refusal.specs.Refusal.{number}
use Rattle.refusal.specs.declared.Refusal.{Refusal}
use Rattle.vector_kind.specs.declared.Kind.{Kind}
use Rattle.vector_word.specs.declared.Fields.{Fields}
use Rattle.vector_word.specs.declared.Row.{Row}
use Rattle.vector_word.specs.Word.{row, allows, instruction, decode}

-- what the writer answers, as C has it: the number, and the word, which is 0 where the number is not
pub record Encoded : Type 0 where
  pub number : ℕ
  pub word : ℕ

abbrev pub answered : Result ℕ Refusal → Encoded
answered (Ok word) = record { number = 0; word = word }
answered (Err refusal) = record { number = number refusal; word = 0 }

-- each field has its bits, and the row allows vm and the vs1 field
abbrev pub admits : Row → Fields → Bool
admits r f =
    ltb f.vm 2
    && (ltb f.vs2 32
    && (ltb f.vs1 32
    && (ltb f.vd 32
    && (allows r.vm f.vm && allows r.vs1 f.vs1))))

-- high bit to low: funct6 (6), vm (1), vs2 (5), vs1 or rs1 (5), funct3 (3), vd (5), opcode (7)
abbrev pub word_of : Row → Fields → ℕ
word_of r f =
    r.funct6 * 2 ^ 26
    + f.vm * 2 ^ 25
    + f.vs2 * 2 ^ 20
    + f.vs1 * 2 ^ 15
    + r.funct3 * 2 ^ 12
    + f.vd * 2 ^ 7
    + r.opcode

-- 0 and the word; 2 and 0 where no word of the kind has these fields
abbrev pub encoded : Kind → Fields → Encoded
encoded k f = record { number = cond (admits (row k) f) 0 2; word = cond (admits (row k) f) (word_of (row k) f) 0 }

-- ---- writer and decoder undo each other

-- whatever is written decodes to the same kind and fields
abbrev pub WrittenDecodes : Type 0
WrittenDecodes = (k : Kind) (f : Fields) → (encoded k f).number ≡ 0 → decode (encoded k f).word ≡ Some (instruction k f)

-- every 32-bit word that decodes is written again from its kind and fields, bit for bit
abbrev pub DecodedIsWritten : Type 0
DecodedIsWritten = (word : ℕ) → word < 2 ^ 32 → (k : Kind) (f : Fields) → decode word ≡ Some (instruction k f) → encoded k f ≡ record { number = 0; word = word }

-- ---- what the function that puts the parts together asks

-- each part of a word is narrow enough for its bits
pub record Narrow (r : Row) (f : Fields) : Type 0 where
  pub funct6 : r.funct6 < 64
  pub vm : f.vm < 2
  pub vs2 : f.vs2 < 32
  pub vs1 : f.vs1 < 32
  pub funct3 : r.funct3 < 8
  pub vd : f.vd < 32
  pub opcode : r.opcode < 128
