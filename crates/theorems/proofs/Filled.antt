-- What the fill makes of a file: ones bits in the bytes that the policies name, and every other byte as it was (`ones_fill`, `mask-fill`,
-- `tail-fill`). What ones bits in vd's group keep it keeps (`filled_keeps`): bytes outside the group, and that all are bytes.
-- Assumes nothing.
use Rattle.std.proofs.Common.{Bool, true, false, true≢false, cond, not, List, ◌≡◌, refl, sym, ap, subst, ◌∙◌, ℕ, ◌+◌, ◌-◌, ◌*◌, ◌/◌, ◌<◌, ◌≤◌, arith, leb, length, get_or, length-set, get_or-set_same, get_or-set_other}
use Rattle.octets.specs.Bytes.{AreBytes}
use Rattle.octets.proofs.LittleEndian.{set-bytes}
use Rattle.vector_registers.specs.declared.settings.Settings.{Settings}
use Rattle.vector_registers.specs.Settings.{register_bytes}
use Rattle.vector_word.specs.declared.Fields.{Fields}
use Rattle.vector_element.specs.Element.{element_at, active}
use Rattle.vector_element.specs.Steps.{steps}
use Rattle.vector_element.proofs.Steps.{steps-keep}
use Rattle.vector_fill.specs.Fill.{ones_at, ones_between, mask_step, mask_filled, group_end, tail_filled, filled}
use Rattle.theorems.specs.Execution.{Within, InVdGroup, Done}
use Rattle.theorems.proofs.Fold.{Except, Does, fold_done}
use Rattle.theorems.proofs.Registers.{Aligned, Ready, element-fits, element-apart, active-same}

-- out is g with ones bits in the bytes that are in a set, and every other byte as it was
pub record Fills (g out : List ℕ) (In : ℕ → Type 0) : Type 0 where
  pub ones : (p : ℕ) → In p → get_or out p 0 ≡ 255
  pub others : (p : ℕ) → (In p → ⊥) → get_or out p 0 ≡ get_or g p 0
  pub same_length : length out ≡ length g

-- what is filled only if a policy is on
if-fill : (b : Bool) (g out : List ℕ) (In : ℕ → Type 0) → Fills g out In → Fills g (cond b out g) (λ p. (b ≡ true) × In p)
if-fill true g out In all =
    record { ones = λ p h. all.ones p h.1; others = λ p h. all.others p (λ w. h (refl, w)); same_length = all.same_length }
if-fill false g out In all = record { ones = λ p h. absurd (true≢false (sym h.0)); others = λ p h. refl; same_length = refl }

-- a range of bytes of the file
pub ones_fill : (from to : ℕ) (g : List ℕ) → to ≤ length g → Fills g (ones_between from to g) (λ p. (from ≤ p) × (p < to))
unfolding ones_between
ones_fill from to g room = record {
  ones = λ p h. all.results p h.0 h.1 refl;
  others = λ p h. all.others p (λ i lo hi a w. h (omega arith, omega arith));
  same_length = all.same_length;
}
  where
    step : (i : ℕ) (h : List ℕ) → from ≤ i → i < to → Except g h from i → Does h (ones_at i h) i 1 true (λ l. get_or l i 0) 255
    step i h lo hi x = record {
      same_length = length-set h i 255;
      other = λ p out. get_or-set_other h i p 255 0 (λ e. out (omega arith, omega arith));
      skipped = λ e. absurd (true≢false e);
      written = λ e. get_or-set_same h i 255 0 (omega (arith, x.same_length));
    }

    all : Done g (steps ones_at (to - from) from g) from to 1 (λ i. i) (λ i. true) (λ i l. get_or l i 0) (λ i. 255)
    all =
        fold_done g (λ i. i) 1 from to ones_at (λ i. true) (λ i l. get_or l i 0) (λ i. 255) (λ i j h. omega arith)
        (λ l m i e. e i (omega arith, omega arith)) step

-- ---- the mask

-- byte p is one of element i, which is in range and not active by the mask of this file
abbrev pub MaskedOff : Fields → Settings → List ℕ → ℕ → ℕ → Type 0
MaskedOff f s file i p =
    (s.vstart ≤ i) × (i < s.vl) × (active f file i ≡ false) × Within (element_at s.vlen s.sew f.vd i) (s.sew / 8) p

module _
    {file_length : ℕ} (f : Fields) (s : Settings) (ready : Ready file_length s) (vd-small : f.vd ≤ 31) (vd-aligned : Aligned s f.vd)
    (some : 0 < s.sew / 8) (unmasked : (f.vm ≡ 1 → ⊥) → 0 < f.vd)
    (file g : List ℕ) (long : length g ≡ file_length) (before : (p : ℕ) → p < f.vd * register_bytes s.vlen → get_or g p 0 ≡ get_or file p 0)
  where
    abbrev place : ℕ → ℕ
    place i = element_at s.vlen s.sew f.vd i

    -- a step, looked at in one byte of each element
    step : (j : ℕ) → j < s.sew / 8 → (i : ℕ) (h : List ℕ) → s.vstart ≤ i → i < s.vl → Except g h (place s.vstart) (place i)
        → Does h (mask_step f s i h) (place i) (s.sew / 8) (not (active f file i)) (λ l. get_or l (place i + j) 0) 255
    unfolding mask_step
    step j small i h lo hi x =
        let mask : active f h i ≡ active f file i =
        active-same f s ready unmasked h file (λ p l. x.same p (λ b. omega (arith, b)) ∙ before p l) i hi in
        subst (λ (b : Bool). Does h (cond b h (ones_between (place i) (place i + s.sew / 8) h)) (place i) (s.sew / 8) (not (active f file i)) (λ l. get_or l (place i + j) 0) 255)
        (sym mask) (go (active f file i))
      where
        fill : Fills h (ones_between (place i) (place i + s.sew / 8) h) (λ p. (place i ≤ p) × (p < place i + s.sew / 8))
        fill =
            ones_fill (place i) (place i + s.sew / 8) h
            (omega (arith, x.same_length, long, element-fits s ready i hi, ready.in-file f.vd vd-small vd-aligned))

        go : (b : Bool) → Does h (cond b h (ones_between (place i) (place i + s.sew / 8) h)) (place i) (s.sew / 8) (not b) (λ l. get_or l (place i + j) 0) 255
        go true = record { same_length = refl; other = λ p out. refl; skipped = λ e. refl; written = λ e. absurd (true≢false (sym e)) }
        go false = record {
          same_length = fill.same_length;
          other = fill.others;
          skipped = λ e. absurd (true≢false e);
          written = λ e. fill.ones (place i + j) (omega arith, omega arith);
        }

    all : (j : ℕ) → j < s.sew / 8
        → Done g (steps (mask_step f s) (s.vl - s.vstart) s.vstart g) s.vstart s.vl (s.sew / 8) place (λ i. not (active f file i))
        (λ i l. get_or l (place i + j) 0) (λ i. 255)
    all j small =
        fold_done g place (s.sew / 8) s.vstart s.vl (mask_step f s) (λ i. not (active f file i)) (λ i l. get_or l (place i + j) 0) (λ i. 255)
        (element-apart s f.vd) (λ l m i e. e (place i + j) (omega arith, omega arith)) (step j small)

    pub mask-fill : Fills g (mask_filled f s g) (λ p. (s.vma ≡ true) × ((i : ℕ) × MaskedOff f s file i p))
    unfolding mask_filled
    mask-fill = if-fill s.vma g out (λ p. (i : ℕ) × MaskedOff f s file i p) (record {
      ones = λ p h. ones p h.0 h.1;
      others = λ p h. (all 0 some).others p (λ i lo hi a w. h (i, (lo, hi, off-is (active f file i) a, w)));
      same_length = (all 0 some).same_length;
    })
      where
        out : List ℕ
        out = steps (mask_step f s) (s.vl - s.vstart) s.vstart g

        ones : (p i : ℕ) → MaskedOff f s file i p → get_or out p 0 ≡ 255
        ones p i (lo, hi, off, w) =
            let e : place i + (p - place i) ≡ p = omega (arith, w) in
            subst (λ (q : ℕ). get_or out q 0 ≡ 255) e ((all (p - place i) (omega (arith, w))).results i lo hi (ap not off))

        off-is : (b : Bool) → not b ≡ true → b ≡ false
        off-is true e = sym e
        off-is false e = refl

-- ---- the tail

-- byte p is one of vd's group, from element vl on
abbrev pub InTail : Fields → Settings → ℕ → Type 0
InTail f s p = (element_at s.vlen s.sew f.vd s.vl ≤ p) × (p < group_end s.vlen s.lmul f.vd)

pub tail-fill : (f : Fields) (s : Settings) (g : List ℕ) → group_end s.vlen s.lmul f.vd ≤ length g → Fills g (tail_filled f s g) (λ p. (s.vta ≡ true) × InTail f s p)
unfolding tail_filled
tail-fill f s g room =
    if-fill s.vta g _ (InTail f s) (ones_fill (element_at s.vlen s.sew f.vd s.vl) (group_end s.vlen s.lmul f.vd) g room)

-- ---- what ones bits in a byte of vd's group keep, the fill keeps

module _ (P : List ℕ → Type 0) where
  pick-keeps : (b : Bool) (g h : List ℕ) → P g → P h → P (cond b g h)
  pick-keeps true g h p q = p
  pick-keeps false g h p q = q

  module _ {file_length : ℕ} (f : Fields) (s : Settings) (ready : Ready file_length s) (keep : (q : ℕ) (h : List ℕ) → InVdGroup f s q → P h → P (ones_at q h)) where
    ones_keep : (from to : ℕ) (g : List ℕ) → ((q : ℕ) → from ≤ q → q < to → InVdGroup f s q) → P g → P (ones_between from to g)
    unfolding ones_between
    ones_keep from to g inside = steps-keep ones_at P (to - from) from g (λ q h lo hi. keep q h (inside q lo (omega arith)))

    mask-keeps : (g : List ℕ) → P g → P (mask_filled f s g)
    unfolding mask_step mask_filled
    mask-keeps g h =
        pick-keeps s.vma _ g
        (steps-keep (mask_step f s) P (s.vl - s.vstart) s.vstart g
        (λ i l lo hi k. pick-keeps (active f l i) l _ k
        (ones_keep _ _ l (λ q low high. (omega arith, omega (arith, high, element-fits s ready i (omega (arith, lo, hi))))) k)) h) h

    pub filled_keeps : (g : List ℕ) → P g → P (filled f s g)
    unfolding tail_filled filled
    filled_keeps g h =
        let m = mask-keeps g h in
        pick-keeps (leb s.vl s.vstart) g _ h
        (pick-keeps s.vta _ (mask_filled f s g) (ones_keep _ _ (mask_filled f s g) (λ q low high. (omega arith, omega (arith, high))) m) m)

-- bytes outside the group
pub filled-outside : {file_length : ℕ} (f : Fields) (s : Settings) → Ready file_length s → (g : List ℕ) (p : ℕ) → (InVdGroup f s p → ⊥)
    → get_or (filled f s g) p 0 ≡ get_or g p 0
filled-outside f s ready g p out =
    filled_keeps (λ h. get_or h p 0 ≡ get_or g p 0) f s ready
    (λ q h w e. get_or-set_other h q p 255 0 (λ same. out (subst (InVdGroup f s) (sym same) w)) ∙ e) g refl

-- that all are bytes
pub filled-bytes : {file_length : ℕ} (f : Fields) (s : Settings) → Ready file_length s → (g : List ℕ) → AreBytes g → AreBytes (filled f s g)
filled-bytes f s ready = filled_keeps AreBytes f s ready (λ q h w. set-bytes h q 255 (omega arith))
