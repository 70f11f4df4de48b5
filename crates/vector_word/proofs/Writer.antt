-- Writer and decoder undo each other (`written-decodes`, `decoded-is-written`); and what it tells of a row that it admits fields.
-- Assumes nothing.
use Rattle.std.proofs.Common.{Bool, true, false, cond, ◌&&◌, List, [], ◌∷◌, Option, Some, None, ◌≡◌, refl, sym, ap, subst, ◌∙◌, ℕ, ◌+◌, ◌*◌, ◌/◌, ◌^◌, ◌<◌, arith, eqb, ltb, eqb-true, ltb-true, lt-ltb}
use mathlib.Core.Bool.{and-eq-true_iff}
use Rattle.vector_kind.specs.declared.Kind.{Kind}
use Rattle.vector_kind.specs.declared.Kind.TheVariants.{VclmulVv, VclmulVx, VclmulhVv, VclmulhVx, VghshVv, VghshVs, VgmulVv, VgmulVs}
use Rattle.vector_kind.specs.Kinds.{kinds}
use Rattle.vector_word.specs.declared.Fields.{Fields}
use Rattle.vector_word.specs.declared.Instruction.{Instruction}
use Rattle.vector_word.specs.declared.Row.{Row}
use Rattle.vector_word.specs.Word.{row, allows, is_row, fields_of, funct6_of, vm_of, vs2_of, vs1_of, funct3_of, vd_of, opcode_of, instruction, as_kind, among, decode}
use Rattle.vector_word.specs.Writer.{Encoded, Narrow, admits, word_of, encoded, WrittenDecodes, DecodedIsWritten}
use Rattle.vector_word.proofs.Tests.{and-next}

-- ---- tests that hold

-- each field has its bits
pub record FieldsFit (f : Fields) : Type 0 where
  pub vm : f.vm < 2
  pub vs2 : f.vs2 < 32
  pub vs1 : f.vs1 < 32
  pub vd : f.vd < 32

pub record Admitted (r : Row) (f : Fields) : Type 0 where
  pub fields : FieldsFit f
  pub vm-allowed : allows r.vm f.vm ≡ true
  pub vs1-allowed : allows r.vs1 f.vs1 ≡ true

pub admitted : (r : Row) (f : Fields) → admits r f ≡ true → Admitted r f
admitted r f h =
    let h1 = (and-eq-true_iff (ltb f.vm 2) _).0 h in
    let h2 = (and-eq-true_iff (ltb f.vs2 32) _).0 h1.1 in
    let h3 = (and-eq-true_iff (ltb f.vs1 32) _).0 h2.1 in
    let h4 = (and-eq-true_iff (ltb f.vd 32) _).0 h3.1 in
    let h5 = (and-eq-true_iff (allows r.vm f.vm) _).0 h4.1 in
    record {
      fields = record {
        vm = ltb-true f.vm 2 h1.0;
        vs2 = ltb-true f.vs2 32 h2.0;
        vs1 = ltb-true f.vs1 32 h3.0;
        vd = ltb-true f.vd 32 h4.0;
      };
      vm-allowed = h5.0;
      vs1-allowed = h5.1;
    }

row-narrow : (k : Kind) → ((row k).funct6 < 64) × ((row k).funct3 < 8) × ((row k).opcode < 128)
row-narrow VclmulVv = omega arith
row-narrow VclmulVx = omega arith
row-narrow VclmulhVv = omega arith
row-narrow VclmulhVx = omega arith
row-narrow VghshVv = omega arith
row-narrow VghshVs = omega arith
row-narrow VgmulVv = omega arith
row-narrow VgmulVs = omega arith

pub narrow : (k : Kind) (f : Fields) → admits (row k) f ≡ true → Narrow (row k) f
narrow k f h =
    let a = (admitted (row k) f h).fields in
    let n = row-narrow k in
    record { funct6 = n.0; vm = a.vm; vs2 = a.vs2; vs1 = a.vs1; funct3 = n.1; vd = a.vd; opcode = n.2 }

-- ---- the fields of a word that was written

module _ (r : Row) (f : Fields) (n : Narrow r f) where
  funct6-back : funct6_of (word_of r f) ≡ r.funct6
  funct6-back = omega arith

  vm-back : vm_of (word_of r f) ≡ f.vm
  vm-back = omega arith

  vs2-back : vs2_of (word_of r f) ≡ f.vs2
  vs2-back = omega arith

  vs1-back : vs1_of (word_of r f) ≡ f.vs1
  vs1-back = omega arith

  funct3-back : funct3_of (word_of r f) ≡ r.funct3
  funct3-back = omega arith

  vd-back : vd_of (word_of r f) ≡ f.vd
  vd-back = omega arith

  opcode-back : opcode_of (word_of r f) ≡ r.opcode
  opcode-back = omega arith

-- ---- the writer's answer, by the test

pub refused : (k : Kind) (f : Fields) → admits (row k) f ≡ false → record { number = 2; word = 0 } ≡ encoded k f
refused k f h = λ i. record { number = cond (sym h i) 0 2; word = cond (sym h i) (word_of (row k) f) 0 }

pub written : (k : Kind) (f : Fields) → admits (row k) f ≡ true → {w : ℕ} → w ≡ word_of (row k) f → record { number = 0; word = w } ≡ encoded k f
written k f h e = λ i. record { number = cond (sym h i) 0 2; word = (e ∙ λ j. cond (sym h j) (word_of (row k) f) 0) i }

-- ---- whatever is written decodes

-- the decoder goes by five parts of a word; the fields are handed on
picked_by : (funct6 vm vs1 funct3 opcode : ℕ) → Fields → List Kind → Option Instruction
picked_by funct6 vm vs1 funct3 opcode f [] = None
picked_by funct6 vm vs1 funct3 opcode f (k ∷ ks) =
    cond (eqb funct6 (row k).funct6 && (allows (row k).vm vm && (allows (row k).vs1 vs1 && (eqb funct3 (row k).funct3 && eqb opcode (row k).opcode))))
    (Some (instruction k f)) (picked_by funct6 vm vs1 funct3 opcode f ks)

picked : (w : ℕ) (ks : List Kind) → among ks w ≡ picked_by (funct6_of w) (vm_of w) (vs1_of w) (funct3_of w) (opcode_of w) (fields_of w) ks
unfolding picked_by
picked w [] = refl
picked w (k ∷ ks) = ap (as_kind k w) (picked w ks)

-- no two rows have the same funct6, funct3 and opcode
finds : (k : Kind) (f : Fields) → Admitted (row k) f
    → picked_by (row k).funct6 f.vm f.vs1 (row k).funct3 (row k).opcode f kinds ≡ Some (instruction k f)
unfolding picked_by
finds VclmulVv f a = refl
finds VclmulVx f a = refl
finds VclmulhVv f a = refl
finds VclmulhVx f a = refl
finds VghshVv f a = rw a.vm-allowed
finds VghshVs f a = rw a.vm-allowed
finds VgmulVv f a = rw (a.vm-allowed, a.vs1-allowed)
finds VgmulVs f a = rw (a.vm-allowed, a.vs1-allowed)

pub done-admits : (k : Kind) (f : Fields) → (encoded k f).number ≡ 0 → admits (row k) f ≡ true
done-admits k f = go (admits (row k) f)
  where
    go : (b : Bool) → ◌≡◌ {A = ℕ} (cond b 0 2) 0 → b ≡ true
    go true e = refl
    go false e = absurd (omega arith)

pub written-decodes : WrittenDecodes
unfolding decode
written-decodes k f e =
    let h = done-admits k f e in
    let n = narrow k f h in
    let r = row k in
    ap (λ (x : Encoded). among kinds x.word) (sym (written k f h refl))
    ∙ picked (word_of r f) kinds
    ∙ (λ i. picked_by (funct6-back r f n i) (vm-back r f n i) (vs1-back r f n i) (funct3-back r f n i) (opcode-back r f n i)
    (record { vm = vm-back r f n i; vs2 = vs2-back r f n i; vs1 = vs1-back r f n i; vd = vd-back r f n i }) kinds)
    ∙ finds k f (admitted r f h)

-- ---- every word that decodes is written again

-- an instruction tells its kind and its fields
pub same_instruction : {j k : Kind} {e f : Fields} → Some (instruction j e) ≡ Some (instruction k f) → (j ≡ k) × (e ≡ f)
same_instruction {j} {k} {e} {f} h =
    let same : instruction j e ≡ instruction k f = cc in
    (ap (λ (i : Instruction). i.kind) same, ap (λ (i : Instruction). i.fields) same)

pub among-row : (ks : List Kind) (w : ℕ) {k : Kind} {f : Fields} → among ks w ≡ Some (instruction k f) → (is_row (row k) w ≡ true) × (fields_of w ≡ f)
among-row [] w e = let z : ◌≡◌ {A = ℕ} 0 1 = cc in absurd (omega arith)
among-row (a ∷ ks) w {k} {f} e = go (is_row (row a) w) refl (among-row ks w) e
  where
    go : (b : Bool) → is_row (row a) w ≡ b → (among ks w ≡ Some (instruction k f) → (is_row (row k) w ≡ true) × (fields_of w ≡ f))
        → cond b (Some (instruction a (fields_of w))) (among ks w) ≡ Some (instruction k f) → (is_row (row k) w ≡ true) × (fields_of w ≡ f)
    go true t rest e = let same = same_instruction e in (ap (λ (j : Kind). is_row (row j) w) (sym same.0) ∙ t, same.1)
    go false t rest e = rest e

-- a word's own fields fit
pub fields_fit : (w : ℕ) → FieldsFit (fields_of w)
fields_fit w = record { vm = omega arith; vs2 = omega arith; vs1 = omega arith; vd = omega arith }

pub decoded-fit : (w : ℕ) {k : Kind} {f : Fields} → decode w ≡ Some (instruction k f) → FieldsFit f
unfolding decode
decoded-fit w e = subst FieldsFit (among-row kinds w e).1 (fields_fit w)

-- a number is made up of its bits: each part from place `low` on, and what is above it
parts : (w funct6 vm vs2 vs1 funct3 vd opcode : ℕ)
    → w ≡ w / 2 ^ 7 * 2 ^ 7 + opcode → w / 2 ^ 7 ≡ w / 2 ^ 12 * 2 ^ 5 + vd → w / 2 ^ 12 ≡ w / 2 ^ 15 * 2 ^ 3 + funct3
    → w / 2 ^ 15 ≡ w / 2 ^ 20 * 2 ^ 5 + vs1 → w / 2 ^ 20 ≡ w / 2 ^ 25 * 2 ^ 5 + vs2 → w / 2 ^ 25 ≡ w / 2 ^ 26 * 2 + vm → w / 2 ^ 26 ≡ funct6
    → w ≡ funct6 * 2 ^ 26 + vm * 2 ^ 25 + vs2 * 2 ^ 20 + vs1 * 2 ^ 15 + funct3 * 2 ^ 12 + vd * 2 ^ 7 + opcode
parts w funct6 vm vs2 vs1 funct3 vd opcode = go (w / 2 ^ 7) (w / 2 ^ 12) (w / 2 ^ 15) (w / 2 ^ 20) (w / 2 ^ 25) (w / 2 ^ 26)
  where
    go : (q7 q12 q15 q20 q25 q26 : ℕ)
        → w ≡ q7 * 2 ^ 7 + opcode → q7 ≡ q12 * 2 ^ 5 + vd → q12 ≡ q15 * 2 ^ 3 + funct3 → q15 ≡ q20 * 2 ^ 5 + vs1 → q20 ≡ q25 * 2 ^ 5 + vs2
        → q25 ≡ q26 * 2 + vm → q26 ≡ funct6
        → w ≡ funct6 * 2 ^ 26 + vm * 2 ^ 25 + vs2 * 2 ^ 20 + vs1 * 2 ^ 15 + funct3 * 2 ^ 12 + vd * 2 ^ 7 + opcode
    go q7 q12 q15 q20 q25 q26 e0 e7 e12 e15 e20 e25 e26 = omega arith

made-of-parts : (w : ℕ) → w < 2 ^ 32
    → w ≡ funct6_of w * 2 ^ 26 + vm_of w * 2 ^ 25 + vs2_of w * 2 ^ 20 + vs1_of w * 2 ^ 15 + funct3_of w * 2 ^ 12 + vd_of w * 2 ^ 7 + opcode_of w
made-of-parts w small =
    parts w (funct6_of w) (vm_of w) (vs2_of w) (vs1_of w) (funct3_of w) (vd_of w) (opcode_of w)
    (omega arith) (omega arith) (omega arith) (omega arith) (omega arith) (omega arith) (omega arith)

has-row : (k : Kind) (w : ℕ) → w < 2 ^ 32 → is_row (row k) w ≡ true → encoded k (fields_of w) ≡ record { number = 0; word = w }
has-row k w small h =
    let h1 = (and-eq-true_iff (eqb (funct6_of w) (row k).funct6) _).0 h in
    let h2 = (and-eq-true_iff (allows (row k).vm (vm_of w)) _).0 h1.1 in
    let h3 = (and-eq-true_iff (allows (row k).vs1 (vs1_of w)) _).0 h2.1 in
    let h4 = (and-eq-true_iff (eqb (funct3_of w) (row k).funct3) _).0 h3.1 in
    let funct6 = eqb-true (funct6_of w) (row k).funct6 h1.0 in
    let funct3 = eqb-true (funct3_of w) (row k).funct3 h4.0 in
    let opcode = eqb-true (opcode_of w) (row k).opcode h4.1 in
    let whole : w ≡ word_of (row k) (fields_of w) =
    made-of-parts w small
    ∙ λ i. funct6 i * 2 ^ 26 + vm_of w * 2 ^ 25 + vs2_of w * 2 ^ 20 + vs1_of w * 2 ^ 15 + funct3 i * 2 ^ 12 + vd_of w * 2 ^ 7 + opcode i in
    let fit = fields_fit w in
    sym (written k (fields_of w)
    (sym (and-next _ _ (lt-ltb (vm_of w) 2 fit.vm)
    (and-next _ _ (lt-ltb (vs2_of w) 32 fit.vs2)
    (and-next _ _ (lt-ltb (vs1_of w) 32 fit.vs1)
    (and-next _ _ (lt-ltb (vd_of w) 32 fit.vd)
    (and-next _ _ h2.0 (sym h3.0)))))))
    whole)

pub decoded-is-written : DecodedIsWritten
unfolding decode
decoded-is-written w small k f e =
    let known = among-row kinds w e in
    ap (encoded k) (sym known.1) ∙ has-row k w small known.0
