-- The listing: the text of a word in a lent buffer (document 02, Ask 1). Assumes nothing.
use Rattle.std.specs.Prelude.{ℕ, ◌+◌, ◌<◌, ◌≤◌, cond, List, ◌++◌, ◌≡◌, eqb, ltb, length, drop, Option, Some, None, Result, Ok, Err}
use Rattle.std.proofs.lemmas.List.Edits.{sets}
use Rattle.refusal.specs.Refusal.{number}
use Rattle.refusal.specs.declared.Refusal.{Refusal}
use Rattle.vector_word.specs.declared.Fields.{Fields}
use Rattle.vector_word.specs.declared.Instruction.{Instruction}
use Rattle.vector_listing.specs.Text.{text_of}

-- the number: 2 if the word is none of the eight, else 22 if the buffer is under 32 bytes
abbrev pub list_number : ℕ → Option Instruction → ℕ
list_number bytes (Some i) = cond (ltb bytes 32) 22 0
list_number bytes None = 2

-- what the listing answers, as C has it: the number, and the text's length, which is 0 where the number is not
pub record Listed : Type 0 where
  pub number : ℕ
  pub length : ℕ

abbrev pub answered : Result ℕ Refusal → Listed
answered (Ok bytes) = record { number = 0; length = bytes }
answered (Err refusal) = record { number = number refusal; length = 0 }

abbrev pub listed : ℕ → Option Instruction → Listed
listed bytes w = record { number = list_number bytes w; length = cond (eqb (list_number bytes w) 0) (length (text_of w)) 0 }

-- the buffer: the text, and every later byte as it was; a refusal writes nothing
abbrev pub listed_into : List ℕ → Option Instruction → List ℕ
listed_into buffer w = cond (eqb (list_number (length buffer) w) 0) (text_of w ++ drop (length (text_of w)) buffer) buffer

-- no text is longer than 30 bytes, so each fits in a buffer that is taken
abbrev pub TextsFit : Type 0
TextsFit = (w : Option Instruction) → length (text_of w) ≤ 30

-- ---- what the functions below the listing promise

-- the three registers are registers
pub record Registers (f : Fields) : Type 0 where
  pub vs2 : f.vs2 < 32
  pub vs1 : f.vs1 < 32
  pub vd : f.vd < 32

-- these bytes stand from `at` on, and the answer is the place after them
pub record Puts (before : List ℕ) (at : ℕ) (bytes : List ℕ) (end : ℕ) (after : List ℕ) : Type 0 where
  pub after_is : after ≡ sets before at bytes
  pub end_is : end ≡ at + length bytes
