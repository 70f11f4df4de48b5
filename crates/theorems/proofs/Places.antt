-- What it tells of a word that it is not refused: its register groups are aligned, and every place that it reads or writes lies inside
-- the file (`places-in-file`).
-- Assumes nothing.
use Rattle.std.proofs.Common.{Bool, true, false, cond, not, ◌&&◌, ◌≡◌, subst, ℕ, ◌+◌, ◌/◌, ◌<◌, ◌≤◌, zero-mul, le_of_suc-le-suc, arith, eqb-true, eqb}
use borrow.Author.Tests.{not-false}
use Rattle.vector_registers.specs.declared.settings.Settings.{Settings}
use Rattle.vector_registers.specs.Settings.{register_bytes, misaligned}
use Rattle.vector_word.specs.declared.Fields.{Fields}
use Rattle.vector_kind.specs.declared.Kind.{Kind}
use Rattle.vector_word.proofs.Tests.{or-false}
use Rattle.vector_kind.specs.Kinds.{is_ghash, is_vs, has_vs1_group}
use Rattle.vector_element.specs.Element.{element_at, block_place}
use Rattle.vector_product.proofs.Sew.{SewFacts, sew-facts}
use Rattle.vector_execute.proofs.Admitted.{Admitted, admitted-as, sew-allowed}
use Rattle.vector_word.proofs.Writer.{FieldsFit, decoded-fit}
use Rattle.theorems.specs.Execution.{past_unit, unit_bytes, place_in, PlacesInFile, EveryPlaceInFile}
use Rattle.theorems.proofs.Registers.{Aligned, Ready, ready, element-fits, group-fits, aligned}

pub sew32 : (sew : ℕ) → not (eqb sew 32) ≡ false → sew ≡ 32
sew32 sew h = eqb-true sew 32 (not-false (eqb sew 32) h)

module _ {file_length : ℕ} {k : Kind} {f : Fields} {s : Settings} (a : Admitted file_length k f s) where
  pub settings : Ready file_length s
  settings = ready file_length s a.not1 a.not3

  pub sews : SewFacts s.sew
  sews = sew-facts s.sew (sew-allowed s a.not3)

  -- refusal 6, by the groups that a kind has
  pub vd-of : Aligned s f.vd
  vd-of = aligned s.lmul f.vd (or-false (misaligned s.lmul f.vd) _ a.not6).0

  rest_of : (not (is_vs k) && misaligned s.lmul f.vs2 ≡ false) × (has_vs1_group k && misaligned s.lmul f.vs1 ≡ false)
  rest_of =
      or-false (not (is_vs k) && misaligned s.lmul f.vs2) (has_vs1_group k && misaligned s.lmul f.vs1)
      (or-false (misaligned s.lmul f.vd) _ a.not6).1

  pub vs2-of : is_vs k ≡ false → Aligned s f.vs2
  vs2-of e = aligned s.lmul f.vs2 (subst (λ (b : Bool). not b && misaligned s.lmul f.vs2 ≡ false) e rest_of.0)

  pub vs1-of : has_vs1_group k ≡ true → Aligned s f.vs1
  vs1-of e = aligned s.lmul f.vs1 (subst (λ (b : Bool). b && misaligned s.lmul f.vs1 ≡ false) e rest_of.1)

  -- unit i of a group
  inside : (r : ℕ) → r ≤ 31 → Aligned s r → (i : ℕ) → i < past_unit k s → place_in k s r i + unit_bytes k s ≤ file_length
  inside r hr al i h = go (is_ghash k) a.not4 h
    where
      go : (b : Bool) → b && not (eqb s.sew 32) ≡ false → i < cond b (s.vl / 4) s.vl
          → cond b (block_place s.vlen r i) (element_at s.vlen s.sew r i) + cond b 16 (s.sew / 8) ≤ file_length
      go true e l = omega (arith, group-fits s settings (sew32 s.sew e) i l, settings.in-file r hr al)
      go false e l = omega (arith, element-fits s settings i l, settings.in-file r hr al)

  all-inside : FieldsFit f → PlacesInFile file_length k f s
  all-inside n = record {
    vd = inside f.vd (le_of_suc-le-suc n.vd) vd-of;
    vs1 = λ e. inside f.vs1 (le_of_suc-le-suc n.vs1) (vs1-of e);
    vs2 = λ e. inside f.vs2 (le_of_suc-le-suc n.vs2) (vs2-of e);
    key = λ e. omega (arith, settings.register-in-file f.vs2 (le_of_suc-le-suc n.vs2), settings.sixteen);
    tail = λ p h. omega (arith, h, settings.in-file f.vd (le_of_suc-le-suc n.vd) vd-of);
    mask = λ i h.
        let here : i / 8 < register_bytes s.vlen = omega (arith, settings.masks-fit) in
        (here, omega (arith, settings.register-in-file 0 (omega arith), zero-mul (register_bytes s.vlen)));
  }

pub places-in-file : EveryPlaceInFile
places-in-file file_length word s number k f known = all-inside (admitted-as file_length word s known number) (decoded-fit word known)
