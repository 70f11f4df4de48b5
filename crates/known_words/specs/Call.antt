-- A record of data/words.bin (host/derive/words.py), and what its call should leave. A record begins with numbers, the lowest byte first.
-- Assumes nothing.
use Rattle.std.specs.Prelude.{Bool, true, cond, not, ◌&&◌, List, ◌++◌, ◌≡◌, ℕ, ◌+◌, ◌%◌, ◌^◌, ◌≤◌, min, eqb, length, take, drop}
use Rattle.std.proofs.lemmas.List.Edits.{sets}
use Rattle.octets.specs.LittleEndian.{read_le}
use Rattle.known_bytes.specs.Pattern.{filled}
use Rattle.known_bytes.specs.declared.pattern.Pattern.{Pattern}
use Rattle.vector_registers.specs.declared.settings.Settings.{Settings}
use Rattle.vector_group.specs.Group.{group_refusal, group_of}
use Rattle.vector_refusal.specs.Refusal.{refusal_of}
use Rattle.vector_execute.specs.Execute.{executed, vstart_after}

-- the number in the 4 bytes from `at` on
abbrev pub number_at : List ℕ → ℕ → ℕ
number_at s at = read_le s at 4 % 2 ^ 32

abbrev pub settings_at : List ℕ → Settings
settings_at s = record {
  vlen = number_at s 8;
  sew = number_at s 12;
  lmul = number_at s 16;
  vta = not (eqb (number_at s 52) 0);
  vma = not (eqb (number_at s 56) 0);
  vl = number_at s 20;
  vstart = number_at s 24;
}

-- where the record that starts at `at` ends: 60 bytes, and the bytes that change; what is cut short ends where the bytes do
abbrev pub record_end : List ℕ → ℕ → ℕ
record_end s at = min (min (at + 60) (length s) + read_le s (at + 48) 4) (length s)

-- the length of the file
abbrev pub file_length : List ℕ → ℕ
file_length s = read_le s 36 4

-- what the file holds before a call
abbrev pub pattern : Pattern
pattern = record { 0 = 3; 1 = 7; 2 = 251 }

-- n bytes of it
abbrev pub before : ℕ → List ℕ
before n = filled pattern n

-- the call answers the record's number, and the vstart that goes with it
abbrev pub answers_as : List ℕ → ℕ → Bool
answers_as s n =
    eqb (refusal_of n (number_at s 4) (settings_at s)) (number_at s 40)
    && eqb (vstart_after n (number_at s 4) (settings_at s)) (cond (eqb (number_at s 40) 0) 0 (number_at s 24))

-- the file after the call
abbrev pub after : List ℕ → List ℕ → List ℕ
after s file = executed (number_at s 4) (settings_at s) (read_le s 28 8) file

-- n bytes as they should be afterwards: as before, but for the bytes that change
abbrev pub expected : List ℕ → List ℕ → ℕ → List ℕ
expected s changed n = sets (before n) (read_le s 44 4) changed

-- the call of a record agrees with it: the file is the first of n bytes, and all of them are as they should be
pub record Agrees (s changed : List ℕ) (n : ℕ) : Type 0 where
  pub fits : file_length s ≤ n
  pub answer : answers_as s (file_length s) ≡ true
  pub file : after s (take (file_length s) (before n)) ++ drop (file_length s) (before n) ≡ expected s changed n

-- a register group is refused with this number, and has these bytes of the file
pub record GroupIs (vlen : ℕ) (file : List ℕ) (lmul register number : ℕ) (part : List ℕ) : Type 0 where
  pub answer : group_refusal vlen (length file) lmul register ≡ number
  pub bytes : group_of vlen file lmul register ≡ part

-- the group that a record asks for
abbrev pub group_agrees : List ℕ → List ℕ → List ℕ → Type 0
group_agrees s changed file = GroupIs (number_at s 8) file (number_at s 16) (number_at s 4) (number_at s 40) changed
