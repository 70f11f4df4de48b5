-- The reader: from exactly the texts of words back to the word (document 02, Ask 1). It is said by the listing alone.
-- Assumes nothing.
use Rattle.std.specs.Prelude.{ℕ, ◌^◌, ◌<◌, List, ◌↔◌, ◌≡◌}
use Rattle.vector_word.specs.Word.{decode}
use Rattle.vector_word.specs.Writer.{Encoded}
use Rattle.vector_listing.specs.Listing.{list_number}
use Rattle.vector_listing.specs.Text.{text_of}

-- the 32-bit word is one of the eight, and this is its text
pub record Lists (word : ℕ) (text : List ℕ) : Type 0 where
  pub small : word < 2 ^ 32
  pub listed : list_number 32 (decode word) ≡ 0
  pub text-is : text_of (decode word) ≡ text

-- the answer to a text: 0 and the word exactly when it is the word's text; 2 and 0 exactly when it is no word's
pub record Reads (text : List ℕ) (r : Encoded) : Type 0 where
  pub taken : (word : ℕ) → Lists word text ↔ (r ≡ record { number = 0; word = word })
  pub refused : ((word : ℕ) → Lists word text → ⊥) ↔ (r ≡ record { number = 2; word = 0 })

-- ---- for readers

-- every word of the eight kinds is read back from its own text
abbrev pub ReadFromItsText : Type 0
ReadFromItsText =
    (word : ℕ) → word < 2 ^ 32 → list_number 32 (decode word) ≡ 0
    → (r : Encoded) → Reads (text_of (decode word)) r → r ≡ record { number = 0; word = word }

-- no two words have the same text
abbrev pub OneWordAText : Type 0
OneWordAText = (v w : ℕ) (text : List ℕ) → Lists v text → Lists w text → v ≡ w

-- a text has one answer, and no other
abbrev pub OneAnswer : Type 0
OneAnswer = (text : List ℕ) (q r : Encoded) → Reads text q → Reads text r → q ≡ r
