-- A carry-less word's fold: each active element in range gets the result computed from the file at entry, and every other byte stays.
-- vd may be vs1 or vs2: element i is read before it is written, and no later one reads it.
-- Assumes nothing.
use Rattle.std.proofs.Common.{Bool, true, false, cond, List, ◌≡◌, refl, sym, ap, ap₂, subst, ◌∙◌, ℕ, ◌+◌, ◌*◌, ◌/◌, ◌^◌, ◌<◌, ◌≤◌, mod-lt, mod-eq_of_lt, arith, length, pow_pos}
use Rattle.vector_registers.specs.declared.settings.Settings.{Settings}
use Rattle.vector_word.specs.declared.Fields.{Fields}
use Rattle.vector_registers.specs.Settings.{register_bytes, group_registers}
use Rattle.vector_product.specs.declared.clmul.Half.{Half}
use Rattle.vector_product.specs.declared.clmul.Half.TheVariants.{Low, High}
use Rattle.vector_clmul.specs.declared.Multiplier.{Multiplier}
use Rattle.vector_clmul.specs.declared.Multiplier.TheVariants.{Vs1, Scalar}
use Rattle.vector_product.specs.Clmul.{half_of, clmul64}
use Rattle.octets.specs.LittleEndian.{read_le, write_le}
use Rattle.vector_element.specs.Element.{element_at, active}
use Rattle.vector_clmul.specs.Carryless.{element, multiplier_of, carryless_result, carryless_step, carryless}
use Rattle.theorems.specs.Execution.{Done}
use Rattle.octets.proofs.BigEndian.{bytes_bits}
use Rattle.octets.proofs.LittleEndian.{read_le-same, write_le-length, write_le-other, write_le-read}
use Rattle.theorems.proofs.Fold.{Except, Does, fold_done}
use Rattle.theorems.proofs.Registers.{Aligned, Ready, element-fits, element-apart, active-same, unread}

-- a multiplier that is a register group is aligned
abbrev pub AlignedMultiplier : Multiplier → Fields → Settings → Type 0
AlignedMultiplier Vs1 f s = Aligned s f.vs1
AlignedMultiplier (Scalar x) f s = Unit {0}

half_lt : (which : Half) (sew p : ℕ) → half_of which sew p < 2 ^ sew
half_lt Low sew p = mod-lt p (pow_pos sew)
half_lt High sew p = mod-lt (p / 2 ^ sew) (pow_pos sew)

-- a number is written where the element is active
write-does : (g : List ℕ) (at width v : ℕ) (b : Bool) → at + width ≤ length g → v < 256 ^ width
    → Does g (cond b (write_le width g at v) g) at width b (λ h. read_le h at width) v
write-does g at width v true room small = record {
  same_length = write_le-length width g at v;
  other = write_le-other width g at v;
  skipped = λ e. cc;
  written = λ e. write_le-read width g at v room ∙ mod-eq_of_lt small;
}
write-does g at width v false room small = record {
  same_length = refl;
  other = λ p h. refl;
  skipped = λ e. refl;
  written = λ e. cc;
}

module _
    (which : Half) (m : Multiplier) (f : Fields) (s : Settings) (file : List ℕ) (ready : Ready (length file) s)
    (vd-small : f.vd ≤ 31) (vd-aligned : Aligned s f.vd) (vs2-aligned : Aligned s f.vs2) (m-aligned : AlignedMultiplier m f s)
    (unmasked : (f.vm ≡ 1 → ⊥) → 0 < f.vd)
  where
    abbrev place : ℕ → ℕ
    place i = element_at s.vlen s.sew f.vd i

    -- element i of a group is as at entry while only elements before i have been written
    source : (r i : ℕ) (g : List ℕ) → Aligned s r → i < s.vl → Except file g (place s.vstart) (place i) → element s g r i ≡ element s file r i
    source r i g al h x =
        read_le-same g file (element_at s.vlen s.sew r i) (s.sew / 8)
        (λ p w. x.same p (λ b. unread r f.vd (group_registers s.lmul) (register_bytes s.vlen) (i * (s.sew / 8)) (s.sew / 8) (s.vstart * (s.sew / 8)) p al vd-aligned (element-fits s ready i h) w b))

    multiplier-same : (i : ℕ) (g : List ℕ) → i < s.vl → Except file g (place s.vstart) (place i) → multiplier_of m f s g i ≡ multiplier_of m f s file i
    multiplier-same i g h x = go m m-aligned
      where
        go : (n : Multiplier) → AlignedMultiplier n f s → multiplier_of n f s g i ≡ multiplier_of n f s file i
        go Vs1 al = source f.vs1 i g al h x
        go (Scalar v) al = refl

    result-same : (i : ℕ) (g : List ℕ) → i < s.vl → Except file g (place s.vstart) (place i) → carryless_result which m f s g i ≡ carryless_result which m f s file i
    unfolding carryless_result
    result-same i g h x = ap₂ (λ (a b : ℕ). half_of which s.sew (clmul64 a b)) (multiplier-same i g h x) (source f.vs2 i g vs2-aligned h x)

    -- so are the mask bits, which are not in vd's group
    still-active : (i : ℕ) (g : List ℕ) → i < s.vl → Except file g (place s.vstart) (place i) → active f g i ≡ active f file i
    still-active i g h x = active-same f s ready unmasked g file (λ p l. x.same p (λ b. omega (arith, b))) i h

    result-lt : (i : ℕ) → carryless_result which m f s file i < 256 ^ (s.sew / 8)
    unfolding carryless_result
    result-lt i =
        subst (λ (n : ℕ). carryless_result which m f s file i < n) (ap (λ (k : ℕ). 2 ^ k) ready.sew-bytes ∙ sym (bytes_bits (s.sew / 8)))
        (half_lt which s.sew (clmul64 (multiplier_of m f s file i) (element s file f.vs2 i)))

    step : (i : ℕ) (g : List ℕ) → s.vstart ≤ i → i < s.vl → Except file g (place s.vstart) (place i)
        → Does g (carryless_step which m f s i g) (place i) (s.sew / 8) (active f file i) (λ h. element s h f.vd i) (carryless_result which m f s file i)
    unfolding carryless_step
    step i g lo hi x =
        let room : place i + s.sew / 8 ≤ length g = omega (arith, x.same_length, element-fits s ready i hi, ready.in-file f.vd vd-small vd-aligned) in
        subst (λ (next : List ℕ). Does g next (place i) (s.sew / 8) (active f file i) (λ h. element s h f.vd i) (carryless_result which m f s file i))
        (sym (ap₂ (λ (a : Bool) (v : ℕ). cond a (write_le (s.sew / 8) g (place i) v) g) (still-active i g hi x) (result-same i g hi x)))
        (write-does g (place i) (s.sew / 8) (carryless_result which m f s file i) (active f file i) room (result-lt i))

    pub elements-done : Done file (carryless which m f s file) s.vstart s.vl (s.sew / 8) place (active f file)
        (λ i g. element s g f.vd i) (carryless_result which m f s file)
    unfolding carryless
    elements-done =
        fold_done file place (s.sew / 8) s.vstart s.vl (carryless_step which m f s) (active f file) (λ i g. element s g f.vd i)
        (carryless_result which m f s file) (element-apart s f.vd) (λ g h i e. read_le-same g h (place i) (s.sew / 8) e) step
