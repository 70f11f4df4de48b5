-- Register groups of words that are not refused: a group lies in the file, and two groups are equal or apart, so that bytes of another
-- group are never among those of the units written before (`unread`).
-- Assumes nothing.
use Rattle.std.proofs.Common.{Bool, true, false, not, ◌||◌, List, ⊎_elim, ◌≡◌, refl, sym, ap, subst, ℕ, ◌+◌, ◌*◌, ◌/◌, ◌%◌, ◌^◌, ◌<◌, ◌≤◌, le-div_iff_mul-le, div-add-mod', mul-le-mul_right, suc-mul, le-mul_of_pos_right, le_trans, lt_of_not-le, mul_left_comm, add-mul, eq-or-lt_of_le, le_of_eq, one-mul, arith, eqb-true, ltb-false, eqb, ltb, get_or}
use native.Mathlib.Decide.{dec_le}
use borrow.Author.Tests.{eqb-false, not-false}
use Rattle.vector_registers.specs.declared.settings.Settings.{Settings}
use Rattle.vector_registers.specs.Settings.{applies1, applies3, register_bytes, file_bytes, group_registers, group_length, times_lmul, vlen_allowed, sew_allowed, lmul_allowed, vlmax, misaligned}
use Rattle.vector_registers.proofs.Allowed.{each-vlen, each-sew, each-group, times-lmul}
use Rattle.vector_group.proofs.Groups.{last-register, registers-within}
use Rattle.vector_word.proofs.Tests.{or-false}
use Rattle.vector_product.proofs.Sew.{sew-facts}
use Rattle.vector_word.specs.declared.Fields.{Fields}
use Rattle.vector_element.specs.Element.{element_at, mask_bit, active}
use Rattle.theorems.specs.Execution.{Within}

-- ---- what the settings tell

-- a register group's number is a multiple of the group's size
abbrev pub Aligned : Settings → ℕ → Type 0
Aligned s r = r % group_registers s.lmul ≡ 0

pub record Ready (file_length : ℕ) (s : Settings) : Type 0 where
  pub in-file : (r : ℕ) → r ≤ 31 → Aligned s r → r * register_bytes s.vlen + group_length s.vlen s.lmul ≤ file_length
  -- a register holds a group of 128 bits, and lies in the file
  pub sixteen : 16 ≤ register_bytes s.vlen
  pub register-in-file : (r : ℕ) → r ≤ 31 → r * register_bytes s.vlen + register_bytes s.vlen ≤ file_length
  pub sew-bytes : s.sew ≡ 8 * (s.sew / 8)
  -- the elements fit the group, and their mask bits register 0
  pub elements-fit : s.vl * (s.sew / 8) ≤ group_length s.vlen s.lmul
  pub masks-fit : s.vl ≤ 8 * register_bytes s.vlen

-- a number of bits that is allowed is one of whole bytes
abbrev WholeBytes : ℕ → Type 0
WholeBytes n = n ≡ 8 * (n / 8)

eights : (sew : ℕ) → sew_allowed sew ≡ true → WholeBytes sew
eights sew = each-sew WholeBytes sew refl refl refl refl

vlen-eights : (vlen : ℕ) → vlen_allowed vlen ≡ true → WholeBytes vlen
vlen-eights vlen = each-vlen WholeBytes vlen refl refl refl

at-least-16 : (vlen : ℕ) → vlen_allowed vlen ≡ true → 16 ≤ register_bytes vlen
at-least-16 vlen = each-vlen (λ v. 16 ≤ register_bytes v) vlen (omega arith) (omega arith) (omega arith)

register-within : (r vlen : ℕ) → r ≤ 31 → vlen_allowed vlen ≡ true → r * register_bytes vlen + register_bytes vlen ≤ file_bytes vlen
register-within r vlen le = each-vlen (λ v. r * register_bytes v + register_bytes v ≤ file_bytes v) vlen (omega arith) (omega arith) (omega arith)

-- vl elements of w bytes, where vl is at most VLMAX for registers of v bytes
fit : (vl lmul v w : ℕ) → 0 < w → vl ≤ times_lmul lmul (8 * v) / (8 * w) → vl * w ≤ group_registers lmul * v
fit vl lmul v w hw h =
    let bytes : 0 < 8 * w = omega arith in
    let many : vl * (8 * w) ≤ times_lmul lmul (8 * v) = (le-div_iff_mul-le bytes).0 h in
    omega (arith, times-lmul lmul (8 * v), mul_left_comm vl 8 w, mul_left_comm (group_registers lmul) 8 v)

pub ready : (file_length : ℕ) (s : Settings) → applies1 file_length s.vlen ≡ false → applies3 s ≡ false → Ready file_length s
ready file_length s h1 h3 =
    let p1 = or-false (not (vlen_allowed s.vlen)) (not (eqb file_length (file_bytes s.vlen))) h1 in
    let hv = not-false (vlen_allowed s.vlen) p1.0 in
    let hf = eqb-true file_length (file_bytes s.vlen) (not-false (eqb file_length (file_bytes s.vlen)) p1.1) in
    let p3 = or-false (not (sew_allowed s.sew)) (not (lmul_allowed s.lmul) || ltb (vlmax s.vlen s.sew s.lmul) s.vl) h3 in
    let hs = not-false (sew_allowed s.sew) p3.0 in
    let p4 = or-false (not (lmul_allowed s.lmul)) (ltb (vlmax s.vlen s.sew s.lmul) s.vl) p3.1 in
    let hl = not-false (lmul_allowed s.lmul) p4.0 in
    let most = ltb-false (vlmax s.vlen s.sew s.lmul) s.vl p4.1 in
    let eight : group_registers s.lmul ≤ 8 = each-group (λ (n : ℕ). n ≤ 8) s.lmul (omega arith) (omega arith) (omega arith) (omega arith) hl in
    let w8 = eights s.sew hs in
    let w : 0 < s.sew / 8 = omega (arith, (sew-facts s.sew hs).positive) in
    let fits : s.vl * (s.sew / 8) ≤ group_length s.vlen s.lmul =
    fit s.vl s.lmul (s.vlen / 8) (s.sew / 8) w
    (subst (λ (x : ℕ). s.vl ≤ times_lmul s.lmul x / (8 * (s.sew / 8))) (vlen-eights s.vlen hv)
    (subst (λ (x : ℕ). s.vl ≤ times_lmul s.lmul s.vlen / x) w8 most)) in
    record {
      in-file = λ r hr al. subst (λ (n : ℕ). r * register_bytes s.vlen + group_length s.vlen s.lmul ≤ n) (sym hf)
          (registers-within s.vlen r s.lmul hv (last-register s.lmul r hl hr al));
      sixteen = at-least-16 s.vlen hv;
      register-in-file = λ r hr. subst (λ (n : ℕ). r * register_bytes s.vlen + register_bytes s.vlen ≤ n) (sym hf)
          (register-within r s.vlen hr hv);
      sew-bytes = w8;
      elements-fit = fits;
      masks-fit = le_trans (le-mul_of_pos_right s.vl w) (le_trans fits (mul-le-mul_right (s.vlen / 8) eight));
    }

-- element i and group i end within their register group
pub element-fits : {file_length : ℕ} (s : Settings) → Ready file_length s → (i : ℕ) → i < s.vl
    → i * (s.sew / 8) + s.sew / 8 ≤ group_length s.vlen s.lmul
element-fits s ready i h = le_trans (le_of_eq (sym (suc-mul i (s.sew / 8)))) (le_trans (mul-le-mul_right (s.sew / 8) h) ready.elements-fit)

pub group-fits : {file_length : ℕ} (s : Settings) → Ready file_length s → s.sew ≡ 32 → (i : ℕ) → i < s.vl / 4
    → 16 * i + 16 ≤ group_length s.vlen s.lmul
group-fits s ready sew32 i h =
    let fits : s.vl * 4 ≤ group_length s.vlen s.lmul = subst (λ (w : ℕ). s.vl * (w / 8) ≤ group_length s.vlen s.lmul) sew32 ready.elements-fit in
    omega arith

-- elements of a register group stand one after the other
pub element-apart : (s : Settings) (r i j : ℕ) → i < j → element_at s.vlen s.sew r i + s.sew / 8 ≤ element_at s.vlen s.sew r j
element-apart s r i j h = omega (arith, suc-mul i (s.sew / 8), mul-le-mul_right (s.sew / 8) h)

-- an element is active by its mask bit in any file that agrees with this one before vd's group: refusal 8 keeps the mask out of it
pub active-same : {file_length : ℕ} (f : Fields) (s : Settings) → Ready file_length s → ((f.vm ≡ 1 → ⊥) → 0 < f.vd)
    → (g h : List ℕ) → ((p : ℕ) → p < f.vd * register_bytes s.vlen → get_or g p 0 ≡ get_or h p 0)
    → (i : ℕ) → i < s.vl → active f g i ≡ active f h i
unfolding mask_bit
active-same f s ready unmasked g h same i l = go (eqb f.vm 1) refl
  where
    go : (b : Bool) → eqb f.vm 1 ≡ b → b || eqb (mask_bit g i) 1 ≡ (b || eqb (mask_bit h i) 1)
    go true e = refl
    go false e =
        let first = mul-le-mul_right (register_bytes s.vlen) (unmasked (eqb-false f.vm 1 e)) in
        ap (λ (y : ℕ). eqb (y / 2 ^ (i % 8) % 2) 1)
        (same (i / 8) (omega (arith, ready.masks-fit, first, one-mul (register_bytes s.vlen))))

-- ---- what the fields tell

pub aligned : (lmul r : ℕ) → misaligned lmul r ≡ false → r % group_registers lmul ≡ 0
aligned lmul r h = eqb-true (r % group_registers lmul) 0 (not-false (eqb (r % group_registers lmul) 0) h)

-- ---- two groups of n registers

-- the next multiple of n is n further
next-group : (n a b : ℕ) → a % n ≡ 0 → b % n ≡ 0 → a < b → a + n ≤ b
next-group n a b ha hb h = go (dec_le (b / n) (a / n))
  where
    go : Dec (b / n ≤ a / n) → a + n ≤ b
    go (yes l) = absurd (omega (arith, mul-le-mul_right n l, div-add-mod' a n, div-add-mod' b n))
    go (no l) = omega (arith, mul-le-mul_right n (lt_of_not-le l), suc-mul (a / n) n, div-add-mod' a n, div-add-mod' b n)

-- a unit of x + width bytes at most lies in its group; no byte of unit x of a group at r is one of the group at vd before unit x
pub unread : (r vd n v x width low p : ℕ) → r % n ≡ 0 → vd % n ≡ 0 → x + width ≤ n * v
    → Within (r * v + x) width p → (vd * v + low ≤ p) × (p < vd * v + x) → ⊥
unread r vd n v x width low p hr hd fits w b = go (dec_le r vd)
  where
    -- the group at a ends where the group at c starts, or before
    before : (a c : ℕ) → a % n ≡ 0 → c % n ≡ 0 → a < c → a * v + n * v ≤ c * v
    before a c ha hc l = le_trans (le_of_eq (sym (add-mul a n v))) (mul-le-mul_right v (next-group n a c ha hc l))

    go : Dec (r ≤ vd) → ⊥
    go (yes h) = ⊎_elim (λ e. omega (arith, ap (λ (q : ℕ). q * v) e)) (λ l. omega (arith, before r vd hr hd l)) (eq-or-lt_of_le h)
    go (no h) = omega (arith, before vd r hd hr (lt_of_not-le h))
