-- What a reader asks of an executed word (document 01, "Execution"), unit by unit: a unit is an element of SEW bits in a carry-less
-- word, and a group of 128 bits in a GHASH word. What the policies do to the other bytes is in `Policies`.
-- Assumes nothing.
use Rattle.std.specs.Prelude.{ℕ, ◌+◌, ◌*◌, ◌/◌, ◌<◌, ◌≤◌, Bool, true, false, cond, ◌||◌, List, ◌≡◌, length, get_or, Some}
use Rattle.std.specs.Int.Bits.{bit_xor}
use Rattle.gf128.specs.Field.{product}
use Rattle.vector_registers.specs.declared.settings.Settings.{Settings}
use Rattle.vector_word.specs.declared.Fields.{Fields}
use Rattle.vector_kind.specs.declared.Kind.{Kind}
use Rattle.vector_kind.specs.declared.Kind.TheVariants.{VclmulVv, VclmulVx, VclmulhVv, VclmulhVx, VghshVv, VghshVs, VgmulVv, VgmulVs}
use Rattle.vector_kind.specs.Kinds.{is_ghash, is_vs, has_vs1_group}
use Rattle.vector_word.specs.Word.{decode, instruction}
use Rattle.vector_registers.specs.Settings.{register_bytes, group_length}
use Rattle.vector_refusal.specs.Refusal.{refusal_of}
use Rattle.vector_product.specs.Clmul.{clmul64, low_half, high_half}
use Rattle.vector_element.specs.Element.{element_at, block_place, active}
use Rattle.vector_clmul.specs.Carryless.{element, scalar_of}
use Rattle.vector_ghash.specs.GhashWords.{group}

-- the units that are done: from the first to before this one
abbrev pub first_unit : Kind → Settings → ℕ
first_unit k s = cond (is_ghash k) (s.vstart / 4) s.vstart

abbrev pub past_unit : Kind → Settings → ℕ
past_unit k s = cond (is_ghash k) (s.vl / 4) s.vl

-- of those, the active ones: a GHASH word has no mask
abbrev pub active_unit : Kind → Fields → List ℕ → ℕ → Bool
active_unit k f file i = is_ghash k || active f file i

-- a unit's bytes, and where unit i of a register group starts
abbrev pub unit_bytes : Kind → Settings → ℕ
unit_bytes k s = cond (is_ghash k) 16 (s.sew / 8)

abbrev pub place_in : Kind → Settings → ℕ → ℕ → ℕ
place_in k s register i = cond (is_ghash k) (block_place s.vlen register i) (element_at s.vlen s.sew register i)

-- of vd's group
abbrev pub unit_place : Kind → Fields → Settings → ℕ → ℕ
unit_place k f s i = place_in k s f.vd i

-- unit i of vd's group in a file
abbrev pub unit_of : Kind → Fields → Settings → ℕ → List ℕ → ℕ
unit_of k f s i file = cond (is_ghash k) (group s file f.vd i) (element s file f.vd i)

-- the result of unit i, from a file
abbrev pub result_of : Kind → Fields → Settings → ℕ → List ℕ → ℕ → ℕ
result_of VclmulVv f s scalar file i = low_half s.sew (clmul64 (element s file f.vs1 i) (element s file f.vs2 i))
result_of VclmulVx f s scalar file i = low_half s.sew (clmul64 (scalar_of f s scalar) (element s file f.vs2 i))
result_of VclmulhVv f s scalar file i = high_half s.sew (clmul64 (element s file f.vs1 i) (element s file f.vs2 i))
result_of VclmulhVx f s scalar file i = high_half s.sew (clmul64 (scalar_of f s scalar) (element s file f.vs2 i))
result_of VghshVv f s scalar file i = product (bit_xor (group s file f.vd i) (group s file f.vs1 i)) (group s file f.vs2 i)
result_of VghshVs f s scalar file i = product (bit_xor (group s file f.vd i) (group s file f.vs1 i)) (group s file f.vs2 0)
result_of VgmulVv f s scalar file i = product (group s file f.vd i) (group s file f.vs2 i)
result_of VgmulVs f s scalar file i = product (group s file f.vd i) (group s file f.vs2 0)

-- byte p is one of the `width` bytes from `at` on
abbrev pub Within : ℕ → ℕ → ℕ → Type 0
Within at width p = (at ≤ p) × (p < at + width)

-- byte p is one of vd's register group
abbrev pub InVdGroup : Fields → Settings → ℕ → Type 0
InVdGroup f s p = Within (f.vd * register_bytes s.vlen) (group_length s.vlen s.lmul) p

-- units from `first` to before `past`, each of `width` bytes from its place on, are done on a file
pub record Done
    (file out : List ℕ) (first past width : ℕ) (place : ℕ → ℕ) (active : ℕ → Bool) (unit : ℕ → List ℕ → ℕ) (result : ℕ → ℕ) : Type 0 where
  -- every active unit in range holds its result
  pub results : (i : ℕ) → first ≤ i → i < past → active i ≡ true → unit i out ≡ result i
  -- every byte that is in no active unit in range is as it was
  pub others : (p : ℕ) → ((i : ℕ) → first ≤ i → i < past → active i ≡ true → Within (place i) width p → ⊥) → get_or out p 0 ≡ get_or file p 0
  pub same_length : length out ≡ length file

-- the active units of a word are done on a file: each result is computed from the file at entry
abbrev pub WordDone : Kind → Fields → Settings → ℕ → List ℕ → List ℕ → Type 0
WordDone k f s scalar file out =
    Done file out (first_unit k s) (past_unit k s) (unit_bytes k s) (unit_place k f s) (active_unit k f file) (unit_of k f s) (result_of k f s scalar file)

-- ---- what is read and written lies inside the file

pub record PlacesInFile (file_length : ℕ) (k : Kind) (f : Fields) (s : Settings) : Type 0 where
  -- the units of vd, which are read and written, and those of the groups that are read
  pub vd : (i : ℕ) → i < past_unit k s → place_in k s f.vd i + unit_bytes k s ≤ file_length
  pub vs1 : has_vs1_group k ≡ true → (i : ℕ) → i < past_unit k s → place_in k s f.vs1 i + unit_bytes k s ≤ file_length
  pub vs2 : is_vs k ≡ false → (i : ℕ) → i < past_unit k s → place_in k s f.vs2 i + unit_bytes k s ≤ file_length
  -- the key of a .vs word: group 0 of vs2
  pub key : is_vs k ≡ true → block_place s.vlen f.vs2 0 + 16 ≤ file_length
  -- vd's group, which the tail policy fills up to its end
  pub tail : (p : ℕ) → InVdGroup f s p → p < file_length
  -- the byte of mask bit i is one of register 0
  pub mask : (i : ℕ) → i < s.vl → (i / 8 < register_bytes s.vlen) × (i / 8 < file_length)

-- of every word that is not refused
abbrev pub EveryPlaceInFile : Type 0
EveryPlaceInFile =
    (file_length word : ℕ) (s : Settings) → refusal_of file_length word s ≡ 0
    → (k : Kind) (f : Fields) → decode word ≡ Some (instruction k f) → PlacesInFile file_length k f s
