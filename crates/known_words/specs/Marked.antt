-- Document 01's marked cases on words: K1 to K5 on one element, and K12.
-- Assumes nothing.
use Rattle.std.specs.Prelude.{false, List, ◌≡◌, ℕ, ◌/◌, Option, Some}
use Rattle.octets.specs.LittleEndian.{write_le}
use Rattle.vector_registers.specs.declared.settings.Settings.{Settings}
use Rattle.vector_refusal.specs.Refusal.{refusal_of}
use Rattle.vector_execute.specs.Execute.{executed}
use Rattle.vector_kind.specs.declared.Kind.TheVariants.{VghshVv}
use Rattle.vector_word.specs.declared.Instruction.{Instruction}
use Rattle.vector_word.specs.Word.{instruction}
use Rattle.known_words.specs.Call.{before}

-- the settings of a word on one element of registers of 16 bytes
abbrev pub one_element : ℕ → Settings
one_element sew = record { vlen = 128; sew = sew; lmul = 1; vta = false; vma = false; vl = 1; vstart = 0 }

-- n bytes of the file: a in element 0 of v2, b in that of v3
abbrev pub elements : ℕ → ℕ → ℕ → ℕ → List ℕ
elements n sew a b = write_le (sew / 8) (write_le (sew / 8) (before n) 32 a) 48 b

-- the word is done, makes this of element 0 of v1, and changes nothing else
pub record Becomes (word sew a b element : ℕ) : Type 0 where
  pub done : refusal_of 512 word (one_element sew) ≡ 0
  pub file : executed word (one_element sew) 0 (elements 512 sew a b) ≡ write_le (sew / 8) (elements 512 sew a b) 16 element

-- vghsh.vv with vd 4, vs2 8, vs1 12
abbrev pub k12 : Option Instruction
k12 = Some (instruction VghshVv (record { vm = 1; vs2 = 8; vs1 = 12; vd = 4 }))
