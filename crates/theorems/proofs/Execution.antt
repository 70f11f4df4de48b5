-- The active units of a word that is not refused do what document 01 says (`units-done`): each active element or group in range holds the
-- result computed from the file at entry, and every other byte is as at entry, before the policies fill it (`Policies`). Nothing is asked
-- of vd, vs1 and vs2 beyond the refusals: vd equal to vs1 or vs2 is no exception. Where vstart is at or past vl, the file stays whatever
-- the policies (`file-stays`); if no refusal applies, the answer is 0 then, and vstart becomes 0 (`nothing-done`).
-- Assumes nothing.
use Rattle.std.proofs.Common.{Option, Some, None, Bool, true, false, cond, ◌&&◌, ◌||◌, List, ◌≡◌, refl, sym, ap, subst, ◌∙◌, ℕ, ◌-◌, ◌/◌, ◌<◌, ◌≤◌, pos_of_ne-zero, le_of_suc-le-suc, arith, eq-eqb, le-leb, eqb, leb, length}
use borrow.Author.Tests.{eqb-false}
use Rattle.octets.specs.Bytes.{AreBytes}
use Rattle.vector_registers.specs.declared.settings.Settings.{Settings}
use Rattle.vector_word.specs.declared.Fields.{Fields}
use Rattle.vector_kind.specs.declared.Kind.{Kind}
use Rattle.vector_kind.specs.declared.Kind.TheVariants.{VclmulVv, VclmulVx, VclmulhVv, VclmulhVx, VghshVv, VghshVs, VgmulVv, VgmulVs}
use Rattle.vector_word.specs.declared.Instruction.{Instruction}
use Rattle.vector_registers.specs.Settings.{applies1, applies3}
use Rattle.vector_refusal.specs.Refusal.{applies4, applies5, applies6, applies7, applies8, refusal_of_known, refusal_of_word, refusal_of}
use Rattle.vector_word.specs.Word.{decode, instruction}
use Rattle.vector_word.proofs.Tests.{or-false, pick-here, pick_next}
use Rattle.vector_product.specs.declared.clmul.Half.{Half}
use Rattle.vector_product.specs.declared.clmul.Half.TheVariants.{Low, High}
use Rattle.vector_clmul.specs.declared.Multiplier.{Multiplier}
use Rattle.vector_clmul.specs.declared.Multiplier.TheVariants.{Vs1, Scalar}
use Rattle.vector_ghash.specs.declared.GhashMultiplier.TheVariants.{YXorX, YAlone}
use Rattle.vector_element.specs.Element.{element_at, active}
use Rattle.vector_element.specs.Steps.{steps}
use Rattle.vector_clmul.specs.Carryless.{element, scalar_of, carryless_result, carryless_step, carryless}
use Rattle.vector_ghash.specs.GhashWords.{group, vv_step, vs_step, ghash_vv, ghash_vs}
use Rattle.vector_fill.specs.Fill.{filled}
use Rattle.vector_execute.specs.Execute.{done_known, done, executed, vstart_after}
use Rattle.vector_execute.proofs.Admitted.{Admitted, admitted-as, performed}
use Rattle.vector_element.proofs.Steps.{none_left}
use Rattle.vector_word.proofs.Writer.{FieldsFit, decoded-fit}
use Rattle.theorems.specs.Execution.{Done, WordDone}
use Rattle.theorems.proofs.Elements.{AlignedMultiplier, elements-done}
use Rattle.theorems.proofs.Groups.{vv-done, vs-done}
use Rattle.theorems.proofs.Places.{sew32, settings, vd-of, vs1-of, vs2-of}
use Rattle.theorems.proofs.Registers.{Aligned}

-- refusal 8: with vm 0, vd is not the mask register
pub unmasked : (vm vd : ℕ) (rest : Bool) → vm ≤ 1 → eqb vm 0 && (eqb vd 0 || rest) ≡ false → (vm ≡ 1 → ⊥) → 0 < vd
unmasked vm vd rest small h ne =
    let z : vm ≡ 0 = omega arith in
    pos_of_ne-zero (eqb-false vd 0 (or-false (eqb vd 0) rest (subst (λ (b : Bool). b && (eqb vd 0 || rest) ≡ false) (eq-eqb vm 0 z) h)).0)

module _ (f : Fields) (s : Settings) (scalar : ℕ) (file : List ℕ) (bytes : AreBytes file) (n : FieldsFit f) where
  elements : (which : Half) (m : Multiplier) (k : Kind) → Admitted (length file) k f s → Aligned s f.vs2 → AlignedMultiplier m f s
      → Done file (carryless which m f s file) s.vstart s.vl (s.sew / 8) (element_at s.vlen s.sew f.vd) (active f file)
      (λ i g. element s g f.vd i) (carryless_result which m f s file)
  elements which m k a vs2 vs1 =
      elements-done which m f s file (settings a) (le_of_suc-le-suc n.vd) (vd-of a) vs2 vs1
      (unmasked f.vm f.vd _ (le_of_suc-le-suc n.vm) a.not8)

  by_kind : (k : Kind) → Admitted (length file) k f s → WordDone k f s scalar file (done_known k f s scalar file)
  unfolding carryless_result
  by_kind VclmulVv a = elements Low Vs1 VclmulVv a (vs2-of a refl) (vs1-of a refl)
  by_kind VclmulVx a = elements Low (Scalar (scalar_of f s scalar)) VclmulVx a (vs2-of a refl) tt
  by_kind VclmulhVv a = elements High Vs1 VclmulhVv a (vs2-of a refl) (vs1-of a refl)
  by_kind VclmulhVx a = elements High (Scalar (scalar_of f s scalar)) VclmulhVx a (vs2-of a refl) tt
  by_kind VghshVv a =
      vv-done YXorX f s file bytes (settings a) (le_of_suc-le-suc n.vd) (vd-of a) (vs1-of a refl) (sew32 s.sew a.not4)
      (vs2-of a refl)
  by_kind VghshVs a =
      vs-done YXorX f s file bytes (settings a) (le_of_suc-le-suc n.vd) (vd-of a) (vs1-of a refl) (sew32 s.sew a.not4)
  by_kind VgmulVv a =
      vv-done YAlone f s file bytes (settings a) (le_of_suc-le-suc n.vd) (vd-of a) tt (sew32 s.sew a.not4) (vs2-of a refl)
  by_kind VgmulVs a = vs-done YAlone f s file bytes (settings a) (le_of_suc-le-suc n.vd) (vd-of a) tt (sew32 s.sew a.not4)

-- the active units of a word that is not refused
pub units-done : (word : ℕ) (s : Settings) (scalar : ℕ) (file : List ℕ) → AreBytes file → refusal_of (length file) word s ≡ 0
    → (k : Kind) (f : Fields) → decode word ≡ Some (instruction k f) → WordDone k f s scalar file (done_known k f s scalar file)
units-done word s scalar file bytes number k f known =
    by_kind f s scalar file bytes (decoded-fit word known) k (admitted-as (length file) word s known number)

-- a word of the eight to which no refusal applies is not refused
none-applies : (file_length word : ℕ) (s : Settings) {k : Kind} {f : Fields} → decode word ≡ Some (instruction k f) → Admitted file_length k f s
    → refusal_of file_length word s ≡ 0
unfolding refusal_of refusal_of_known
none-applies file_length word s {k} {f} known a =
    sym (pick_next (applies1 file_length s.vlen) 1 (refusal_of_word (decode word) s) a.not1
    (pick_next (applies3 s) 3 _ a.not3
    (pick_next (applies4 k s) 4 _ a.not4
    (pick_next (applies5 k s) 5 _ a.not5
    (pick_next (applies6 k f s) 6 _ a.not6
    (pick_next (applies7 k f s) 7 _ a.not7
    (pick_next (applies8 k f) 8 0 a.not8 refl)))))
    ∙ ap (λ (w : Option Instruction). refusal_of_word w s) (sym known)))

module _ (s : Settings) (scalar : ℕ) (file : List ℕ) (past : s.vl ≤ s.vstart) where
  no-elements : (S : ℕ → List ℕ → List ℕ) → steps S (s.vl - s.vstart) s.vstart file ≡ file
  no-elements S = sym (none_left S s.vl s.vstart file past refl)

  no-groups : (S : ℕ → List ℕ → List ℕ) → steps S (s.vl / 4 - s.vstart / 4) (s.vstart / 4) file ≡ file
  no-groups S = sym (none_left S (s.vl / 4) (s.vstart / 4) file (omega arith) refl)

  idle : (k : Kind) (f : Fields) → done_known k f s scalar file ≡ file
  unfolding carryless ghash_vv ghash_vs
  idle VclmulVv f = no-elements (carryless_step Low Vs1 f s)
  idle VclmulVx f = no-elements (carryless_step Low (Scalar (scalar_of f s scalar)) f s)
  idle VclmulhVv f = no-elements (carryless_step High Vs1 f s)
  idle VclmulhVx f = no-elements (carryless_step High (Scalar (scalar_of f s scalar)) f s)
  idle VghshVv f = no-groups (vv_step YXorX f s)
  idle VghshVs f = no-groups (vs_step (group s file f.vs2 0) YXorX f s)
  idle VgmulVv f = no-groups (vv_step YAlone f s)
  idle VgmulVs f = no-groups (vs_step (group s file f.vs2 0) YAlone f s)

  idle-word : (w : Option Instruction) → done w s scalar file ≡ file
  unfolding filled
  idle-word None = refl
  idle-word (Some i) = sym (pick-here (leb s.vl s.vstart) (done_known i.kind i.fields s scalar file) _ (le-leb s.vl s.vstart past)) ∙ idle i.kind i.fields

  -- where vstart is at or past vl, the file stays
  pub file-stays : (word : ℕ) → executed word s scalar file ≡ file
  unfolding executed
  file-stays word = go (eqb (refusal_of (length file) word s) 0)
    where
      go : (b : Bool) → cond b (done (decode word) s scalar file) file ≡ file
      go true = idle-word (decode word)
      go false = refl

  -- if no refusal applies, moreover, the answer is 0, and vstart becomes 0
  pub nothing-done : (word : ℕ) {k : Kind} {f : Fields} → decode word ≡ Some (instruction k f) → Admitted (length file) k f s
      → (refusal_of (length file) word s ≡ 0) × (vstart_after (length file) word s ≡ 0) × (executed word s scalar file ≡ file)
  nothing-done word known a =
      let zero = none-applies (length file) word s known a in
      (zero, sym (performed word s scalar file zero).0, file-stays word)
