-- Every byte of the file after a word that is done, with the policies of document 02's Ask 5 (`EveryByte`): exactly one rule gives it, and
-- the theorem names which; where it is a result's, the byte is told too (`ResultBytes`). What is not active is exactly what document 02
-- says (`InactiveIs`). No byte outside vd's group changes (`OnlyVdGroup`), and no refusal number looks at the policies
-- (`NumbersIgnorePolicies`).
-- Assumes nothing.
use Rattle.std.specs.Prelude.{ℕ, ◌+◌, ◌-◌, ◌*◌, ◌/◌, ◌%◌, ◌^◌, ◌<◌, ◌≤◌, Bool, true, false, cond, List, ◌≡◌, length, get_or, Some}
use Rattle.octets.specs.Bytes.{AreBytes}
use Rattle.vector_registers.specs.declared.settings.Settings.{Settings}
use Rattle.vector_registers.specs.Settings.{register_bytes, group_length, with_policies}
use Rattle.vector_word.specs.declared.Fields.{Fields}
use Rattle.vector_kind.specs.declared.Kind.{Kind}
use Rattle.vector_kind.specs.Kinds.{is_ghash}
use Rattle.vector_word.specs.Word.{decode, instruction}
use Rattle.vector_refusal.specs.Refusal.{refusal_of}
use Rattle.vector_element.specs.Element.{element_at, mask_bit}
use Rattle.vector_execute.specs.Execute.{executed}
use Rattle.theorems.specs.Execution.{first_unit, past_unit, active_unit, unit_bytes, unit_place, unit_of, result_of, Within, InVdGroup}

-- ---- the rules, and when each gives byte p, by the file at entry

pub data Rule : Type 0 where
  -- the byte is one of the result of unit i
  result : (i : ℕ) → Rule
  -- ones bits, by the tail policy
  tail : Rule
  -- ones bits, by the mask policy: the byte is one of unit i
  masked : (i : ℕ) → Rule
  -- the byte is as at entry
  kept : Rule

-- byte p is one of unit i, which is in range, and active or not
abbrev pub InUnit : Kind → Fields → Settings → List ℕ → Bool → ℕ → ℕ → Type 0
InUnit k f s file b i p =
    (first_unit k s ≤ i) × (i < past_unit k s) × (active_unit k f file i ≡ b) × Within (unit_place k f s i) (unit_bytes k s) p

-- tail agnostic, vstart before vl, and byte p is one of vd's group from element vl on
abbrev pub ByTail : Fields → Settings → ℕ → Type 0
ByTail f s p =
    (s.vta ≡ true) × (s.vstart < s.vl)
    × (element_at s.vlen s.sew f.vd s.vl ≤ p) × (p < f.vd * register_bytes s.vlen + group_length s.vlen s.lmul)

-- mask agnostic, and byte p is one of unit i, which is not active
abbrev pub ByMask : Kind → Fields → Settings → List ℕ → ℕ → ℕ → Type 0
ByMask k f s file i p = (s.vma ≡ true) × InUnit k f s file false i p

abbrev pub Gives : Kind → Fields → Settings → List ℕ → ℕ → Rule → Type 0
Gives k f s file p (result i) = InUnit k f s file true i p
Gives k f s file p tail = ByTail f s p
Gives k f s file p (masked i) = ByMask k f s file i p
Gives k f s file p kept = ((i : ℕ) → InUnit k f s file true i p → ⊥) × (ByTail f s p → ⊥) × ((i : ℕ) → ByMask k f s file i p → ⊥)

-- ---- the statements

pub record EveryByte (k : Kind) (f : Fields) (s : Settings) (scalar : ℕ) (file out : List ℕ) : Type 0 where
  -- of every byte the rule, which is the only one
  pub rule : ℕ → Rule
  pub gives : (p : ℕ) → Gives k f s file p (rule p)
  pub only : (p : ℕ) (r : Rule) → Gives k f s file p r → r ≡ rule p
  -- what each rule gives: every active unit in range holds its result, computed from the file at entry
  pub results : (i : ℕ) → first_unit k s ≤ i → i < past_unit k s → active_unit k f file i ≡ true → unit_of k f s i out ≡ result_of k f s scalar file i
  pub tails : (p : ℕ) → ByTail f s p → get_or out p 0 ≡ 255
  pub masks : (p i : ℕ) → ByMask k f s file i p → get_or out p 0 ≡ 255
  pub others : (p : ℕ) → Gives k f s file p kept → get_or out p 0 ≡ get_or file p 0
  pub same_length : length out ≡ length file

-- of every word that is not refused, on a file, which is bytes
abbrev pub BytesOfWords : Type 0
BytesOfWords =
    (word : ℕ) (s : Settings) (scalar : ℕ) (file : List ℕ) → AreBytes file → refusal_of (length file) word s ≡ 0
    → (k : Kind) (f : Fields) → decode word ≡ Some (instruction k f) → EveryByte k f s scalar file (executed word s scalar file)

-- byte j of a number that stands in 16 bytes with the highest first, or with the lowest first
abbrev pub byte_in : Bool → ℕ → ℕ → ℕ
byte_in highestFirst v j = cond highestFirst (v / 256 ^ (15 - j) % 256) (v / 256 ^ j % 256)

-- of a unit: a group has its highest byte first, and an element its lowest
abbrev pub byte_of : Kind → ℕ → ℕ → ℕ
byte_of k v j = byte_in (is_ghash k) v j

-- so a byte that a result gives is the result's byte at its place in the unit
abbrev pub ResultBytes : Type 0
ResultBytes =
    (word : ℕ) (s : Settings) (scalar : ℕ) (file : List ℕ) → AreBytes file → refusal_of (length file) word s ≡ 0
    → (k : Kind) (f : Fields) → decode word ≡ Some (instruction k f) → (p i : ℕ) → InUnit k f s file true i p
    → get_or (executed word s scalar file) p 0 ≡ byte_of k (result_of k f s scalar file i) (p - unit_place k f s i)

-- a unit is not active exactly when it is an element, vm is 0 and its mask bit is 0
abbrev pub InactiveIs : Type 0
InactiveIs =
    (word : ℕ) (k : Kind) (f : Fields) → decode word ≡ Some (instruction k f) → (file : List ℕ) (i : ℕ)
    → (active_unit k f file i ≡ false → (is_ghash k ≡ false) × (f.vm ≡ 0) × (mask_bit file i ≡ 0))
    × ((is_ghash k ≡ false) × (f.vm ≡ 0) × (mask_bit file i ≡ 0) → active_unit k f file i ≡ false)

-- a call, refused or not, changes no byte outside vd's group
abbrev pub OnlyVdGroup : Type 0
OnlyVdGroup =
    (word : ℕ) (s : Settings) (scalar : ℕ) (file : List ℕ) → AreBytes file → (k : Kind) (f : Fields) → decode word ≡ Some (instruction k f)
    → (p : ℕ) → (InVdGroup f s p → ⊥) → get_or (executed word s scalar file) p 0 ≡ get_or file p 0

-- a word has the same number under all policies
abbrev pub NumbersIgnorePolicies : Type 0
NumbersIgnorePolicies =
    (file_length word : ℕ) (s : Settings) (vta vma : Bool) → refusal_of file_length word (with_policies vta vma s) ≡ refusal_of file_length word s
