-- The executor as it stood before document 02's Ask 5, with settings that have no policies: what rules on settings, refusals and the active
-- elements it had, kept here so that `SameWithoutPolicies` compares two definitions. What takes no settings is cited: words, places,
-- products, and numbers in bytes.
-- Assumes nothing.
use Rattle.std.specs.Prelude.{ℕ, ◌+◌, ◌-◌, ◌*◌, ◌/◌, ◌%◌, ◌^◌, Bool, false, cond, not, ◌&&◌, ◌||◌, List, ◌≡◌, eqb, leb, ltb, length, Option, Some, None}
use Rattle.std.specs.Int.Bits.{bit_xor}
use Rattle.octets.specs.LittleEndian.{read_le, write_le}
use Rattle.gf128.specs.Bytes.{block_at, put_block}
use Rattle.gf128.specs.Field.{product}
use Rattle.vector_registers.specs.declared.settings.Settings.{Settings}
use Rattle.vector_kind.specs.declared.Kind.{Kind}
use Rattle.vector_kind.specs.declared.Kind.TheVariants.{VclmulVv, VclmulVx, VclmulhVv, VclmulhVx, VghshVv, VghshVs, VgmulVv, VgmulVs}
use Rattle.vector_kind.specs.Kinds.{is_ghash, is_vv, is_vs, has_vs1_group}
use Rattle.vector_word.specs.declared.Fields.{Fields}
use Rattle.vector_word.specs.declared.Instruction.{Instruction}
use Rattle.vector_word.specs.Word.{decode}
use Rattle.vector_product.specs.declared.clmul.Half.{Half}
use Rattle.vector_product.specs.declared.clmul.Half.TheVariants.{Low, High}
use Rattle.vector_product.specs.Clmul.{clmul64, half_of}
use Rattle.vector_element.specs.Element.{element_at, block_place, mask_bit}
use Rattle.vector_element.specs.Steps.{steps}
use Rattle.vector_refusal.specs.Refusal.{refusal_of}
use Rattle.vector_execute.specs.Execute.{executed, vstart_after}

-- ---- the old settings

pub record OldSettings : Type 0 where
  pub vlen : ℕ
  pub sew : ℕ
  pub lmul : ℕ
  pub vl : ℕ
  pub vstart : ℕ

-- the same settings, with both policies off
abbrev pub policies_off : OldSettings → Settings
policies_off s = record { vlen = s.vlen; sew = s.sew; lmul = s.lmul; vta = false; vma = false; vl = s.vl; vstart = s.vstart }

-- ---- the old refusals

abbrev pub old1 : ℕ → OldSettings → Bool
old1 file_length s =
    not (eqb s.vlen 128 || (eqb s.vlen 256 || eqb s.vlen 512)) || not (eqb file_length (32 * s.vlen / 8))

abbrev pub old3 : OldSettings → Bool
old3 s =
    not (eqb s.sew 8 || (eqb s.sew 16 || (eqb s.sew 32 || eqb s.sew 64)))
    || (not (eqb s.lmul 1 || (eqb s.lmul 2 || (eqb s.lmul 4 || eqb s.lmul 8)))
    || ltb (s.lmul * s.vlen / s.sew) s.vl)

abbrev pub old4 : Kind → OldSettings → Bool
old4 k s = is_ghash k && not (eqb s.sew 32)

abbrev pub old5 : Kind → OldSettings → Bool
old5 k s = is_ghash k && (not (eqb (s.vl % 4) 0) || not (eqb (s.vstart % 4) 0))

-- the number of a group is no multiple of LMUL
abbrev pub old_misaligned : OldSettings → ℕ → Bool
old_misaligned s register = not (eqb (register % s.lmul) 0)

abbrev pub old6 : Kind → Fields → OldSettings → Bool
old6 k f s =
    old_misaligned s f.vd
    || ((not (is_vs k) && old_misaligned s f.vs2) || (has_vs1_group k && old_misaligned s f.vs1))

abbrev pub old7 : Kind → Fields → OldSettings → Bool
old7 k f s = is_vs k && (leb f.vd f.vs2 && ltb f.vs2 (f.vd + s.lmul))

abbrev pub old8 : Kind → Fields → Bool
old8 k f = eqb f.vm 0 && (eqb f.vd 0 || (eqb f.vs2 0 || (is_vv k && eqb f.vs1 0)))

abbrev pub old_refusal_of_known : Kind → Fields → OldSettings → ℕ
old_refusal_of_known k f s =
    cond (old3 s) 3 (cond (old4 k s) 4 (cond (old5 k s) 5 (cond (old6 k f s) 6 (cond (old7 k f s) 7 (cond (old8 k f) 8 0)))))

abbrev pub old_refusal_of_word : Option Instruction → OldSettings → ℕ
old_refusal_of_word None s = 2
old_refusal_of_word (Some i) s = old_refusal_of_known i.kind i.fields s

unfoldable pub old_refusal_of : ℕ → ℕ → OldSettings → ℕ
old_refusal_of file_length word s = cond (old1 file_length s) 1 (old_refusal_of_word (decode word) s)

-- ---- the old carry-less words

abbrev pub old_element : OldSettings → List ℕ → ℕ → ℕ → ℕ
old_element s file register i = read_le file (element_at s.vlen s.sew register i) (s.sew / 8)

-- the multiplier of element i, by the file: vs1's element, or the scalar
abbrev pub old_vs1 : Fields → OldSettings → List ℕ → ℕ → ℕ
old_vs1 f s file i = old_element s file f.vs1 i

abbrev pub old_scalar : ℕ → Fields → OldSettings → List ℕ → ℕ → ℕ
old_scalar scalar f s file i = cond (eqb f.vs1 0) 0 (scalar % 2 ^ s.sew)

unfoldable pub old_carryless : Half → (List ℕ → ℕ → ℕ) → Fields → OldSettings → List ℕ → List ℕ
old_carryless half multiplier f s file =
    steps (λ i file.
    cond (eqb f.vm 1 || eqb (mask_bit file i) 1)
    (write_le (s.sew / 8) file (element_at s.vlen s.sew f.vd i)
    (half_of half s.sew (clmul64 (multiplier file i) (old_element s file f.vs2 i))))
    file)
    (s.vl - s.vstart) s.vstart file

-- ---- the old GHASH words

abbrev pub old_group : OldSettings → List ℕ → ℕ → ℕ → ℕ
old_group s file register i = block_at file (block_place s.vlen register i)

-- Y xor X, and Y alone
abbrev pub old_y_xor_x : Fields → OldSettings → List ℕ → ℕ → ℕ
old_y_xor_x f s file i = bit_xor (old_group s file f.vd i) (old_group s file f.vs1 i)

abbrev pub old_y : Fields → OldSettings → List ℕ → ℕ → ℕ
old_y f s file i = old_group s file f.vd i

unfoldable pub old_ghash : (List ℕ → ℕ → ℕ) → (List ℕ → ℕ → ℕ) → Fields → OldSettings → List ℕ → List ℕ
old_ghash multiplier key f s file =
    steps (λ i file. put_block file (block_place s.vlen f.vd i) (product (multiplier file i) (key file i)))
    (s.vl / 4 - s.vstart / 4) (s.vstart / 4) file

-- ---- the old executor

abbrev pub old_done_known : Kind → Fields → OldSettings → ℕ → List ℕ → List ℕ
old_done_known VclmulVv f s scalar file = old_carryless Low (old_vs1 f s) f s file
old_done_known VclmulVx f s scalar file = old_carryless Low (old_scalar scalar f s) f s file
old_done_known VclmulhVv f s scalar file = old_carryless High (old_vs1 f s) f s file
old_done_known VclmulhVx f s scalar file = old_carryless High (old_scalar scalar f s) f s file
old_done_known VghshVv f s scalar file = old_ghash (old_y_xor_x f s) (λ g i. old_group s g f.vs2 i) f s file
old_done_known VghshVs f s scalar file = old_ghash (old_y_xor_x f s) (λ g i. old_group s file f.vs2 0) f s file
old_done_known VgmulVv f s scalar file = old_ghash (old_y f s) (λ g i. old_group s g f.vs2 i) f s file
old_done_known VgmulVs f s scalar file = old_ghash (old_y f s) (λ g i. old_group s file f.vs2 0) f s file

abbrev pub old_done : Option Instruction → OldSettings → ℕ → List ℕ → List ℕ
old_done None s scalar file = file
old_done (Some i) s scalar file = old_done_known i.kind i.fields s scalar file

unfoldable pub old_executed : ℕ → OldSettings → ℕ → List ℕ → List ℕ
old_executed word s scalar file = cond (eqb (old_refusal_of (length file) word s) 0) (old_done (decode word) s scalar file) file

abbrev pub old_vstart_after : ℕ → ℕ → OldSettings → ℕ
old_vstart_after file_length word s = cond (eqb (old_refusal_of file_length word s) 0) 0 s.vstart

-- ---- the statement: with both policies off answer, vstart and file are the old ones

abbrev pub SameWithoutPolicies : Type 0
SameWithoutPolicies =
    (word : ℕ) (s : OldSettings) (scalar : ℕ) (file : List ℕ)
    → (refusal_of (length file) word (policies_off s) ≡ old_refusal_of (length file) word s)
    × (vstart_after (length file) word (policies_off s) ≡ old_vstart_after (length file) word s)
    × (executed word (policies_off s) scalar file ≡ old_executed word s scalar file)
