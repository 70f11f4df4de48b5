-- Refusal 7 and the key of a .vs word. The rule is source 002's reserved encoding, "the vd register group overlaps the vs2 scalar element
-- group" (`SevenIsOverlap`). So in a .vs word that is done no write touches the key (`WritesMissKey`), and the key that the word reads once,
-- before any write, is also the one that stands in the file after each step and after the word (`KeyStays`).
-- Assumes nothing.
use Rattle.std.specs.Prelude.{ℕ, ◌-◌, ◌/◌, ◌<◌, ◌≤◌, true, List, ◌≡◌, length, Some}
use Rattle.vector_registers.specs.declared.settings.Settings.{Settings}
use Rattle.vector_word.specs.declared.Fields.{Fields}
use Rattle.vector_kind.specs.declared.Kind.{Kind}
use Rattle.vector_kind.specs.Kinds.{is_vs}
use Rattle.vector_word.specs.Word.{decode, instruction}
use Rattle.vector_refusal.specs.Refusal.{refusal_of}
use Rattle.vector_element.specs.Element.{block_place}
use Rattle.vector_element.specs.Steps.{steps}
use Rattle.vector_ghash.specs.declared.GhashMultiplier.{GhashMultiplier}
use Rattle.vector_ghash.specs.GhashWords.{group, vs_step}
use Rattle.vector_execute.specs.Execute.{executed}
use Rattle.theorems.specs.Execution.{Within, InVdGroup}

-- the bytes of an element group, which the key is: EGW is 128 bits
abbrev pub key_bytes : ℕ
key_bytes = 16

-- byte p is one of the key's: group 0 of vs2
abbrev pub InKey : Fields → Settings → ℕ → Type 0
InKey f s p = Within (block_place s.vlen f.vs2 0) key_bytes p

-- a .vs word, and some byte of its key is one of vd's register group
abbrev pub KeyOverlaps : Kind → Fields → Settings → Type 0
KeyOverlaps k f s = (is_vs k ≡ true) × (p : ℕ) × InKey f s p × InVdGroup f s p

-- a word and settings that no smaller number refuses are refused with 7 exactly when the key overlaps
abbrev pub SevenIsOverlap : Type 0
SevenIsOverlap =
    (file_length word : ℕ) (s : Settings) (k : Kind) (f : Fields) → decode word ≡ Some (instruction k f)
    → ((0 < refusal_of file_length word s) × (refusal_of file_length word s < 7) → ⊥)
    → (refusal_of file_length word s ≡ 7 → KeyOverlaps k f s) × (KeyOverlaps k f s → refusal_of file_length word s ≡ 7)

-- in a .vs word that is done no byte of vd's group, where all writes are (`Policies: OnlyVdGroup`), is one of the key's
abbrev pub WritesMissKey : Type 0
WritesMissKey =
    (file_length word : ℕ) (s : Settings) → refusal_of file_length word s ≡ 0
    → (k : Kind) (f : Fields) → decode word ≡ Some (instruction k f) → is_vs k ≡ true
    → (p : ℕ) → InVdGroup f s p → InKey f s p → ⊥

-- the key in a file
abbrev pub key_in : Fields → Settings → List ℕ → ℕ
key_in f s file = group s file f.vs2 0

-- the key after any number of the steps, and after the word, is the one at entry
pub record KeyKept (word : ℕ) (s : Settings) (scalar : ℕ) (file : List ℕ) (f : Fields) : Type 0 where
  pub between : (m : GhashMultiplier) (n : ℕ) → n ≤ s.vl / 4 - s.vstart / 4
      → key_in f s (steps (vs_step (key_in f s file) m f s) n (s.vstart / 4) file) ≡ key_in f s file
  pub after : key_in f s (executed word s scalar file) ≡ key_in f s file

-- of every .vs word that is done
abbrev pub KeyStays : Type 0
KeyStays =
    (word : ℕ) (s : Settings) (scalar : ℕ) (file : List ℕ) → refusal_of (length file) word s ≡ 0
    → (k : Kind) (f : Fields) → decode word ≡ Some (instruction k f) → is_vs k ≡ true → KeyKept word s scalar file f
