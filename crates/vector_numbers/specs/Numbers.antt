-- The writer and the decoder with the kinds as numbers, as callers in C have them.
-- Assumes nothing.
use Rattle.std.specs.Prelude.{ℕ, ◌^◌, ◌<◌, ◌≡◌, Option, Some, None, Result, Ok, Err}
use Rattle.refusal.specs.Refusal.{number}
use Rattle.refusal.specs.declared.Refusal.{Refusal}
use Rattle.vector_kind.specs.declared.Kind.{Kind}
use Rattle.vector_kind.specs.Kinds.{kind_number, kind_numbered}
use Rattle.vector_word.specs.declared.Fields.{Fields}
use Rattle.vector_word.specs.declared.Instruction.{Instruction}
use Rattle.vector_word.specs.Word.{decode}
use Rattle.vector_word.specs.Writer.{Encoded, encoded}

-- ---- the writer: 2 and 0 where no kind has the number

abbrev pub encoded_by : Result Kind Refusal → Fields → Encoded
encoded_by (Ok k) f = encoded k f
encoded_by (Err refusal) f = record { number = number refusal; word = 0 }

abbrev pub encoded_numbered : ℕ → Fields → Encoded
encoded_numbered kind f = encoded_by (kind_numbered kind) f

-- ---- the decoder: 2 and zeros where the word is none of the eight

-- what the decoder answers, as C has it: the number, and the kind's number and the fields, which are 0 where the number is not
pub record Decoded : Type 0 where
  pub number : ℕ
  pub kind : ℕ
  pub fields : Fields

-- no kind and no fields beside a number
abbrev pub nothing_beside : ℕ → Decoded
nothing_beside n = record { number = n; kind = 0; fields = record { vm = 0; vs2 = 0; vs1 = 0; vd = 0 } }

abbrev pub decoded : Result (ℕ × Fields) Refusal → Decoded
decoded (Ok found) = record { number = 0; kind = found.0; fields = found.1 }
decoded (Err refusal) = nothing_beside (number refusal)

abbrev pub decoded_by : Option Instruction → Decoded
decoded_by (Some i) = record { number = 0; kind = kind_number i.kind; fields = i.fields }
decoded_by None = nothing_beside 2

abbrev pub decoded_numbered : ℕ → Decoded
decoded_numbered word = decoded_by (decode word)

-- ---- each undoes the other

abbrev pub WrittenDecodes : Type 0
WrittenDecodes =
    (kind : ℕ) (f : Fields) → (encoded_numbered kind f).number ≡ 0
    → decoded_numbered (encoded_numbered kind f).word ≡ record { number = 0; kind = kind; fields = f }

abbrev pub DecodedIsWritten : Type 0
DecodedIsWritten =
    (word : ℕ) → word < 2 ^ 32 → (decoded_numbered word).number ≡ 0
    → encoded_numbered (decoded_numbered word).kind (decoded_numbered word).fields ≡ record { number = 0; word = word }
