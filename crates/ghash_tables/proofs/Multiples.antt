-- The laws of the fast path's tables. Main results: `reduced` (the reductions' rule, by one test), `overflow-more` (the reduction of
-- more than four coefficients), `sixteen-put` (the multiples, four at a time) and `next-table`.
-- Assumes nothing.
use Rattle.std.proofs.Common.{◌≡◌, refl, sym, ap, ap₂, ◌∙◌, subst, Bool, ◌&&◌, List, ⊎_elim, ℕ, zero, suc, ◌+◌, ◌-◌, ◌*◌, ◌/◌, ◌%◌, ◌^◌, ◌<◌, ◌≤◌, add-zero, add_assoc, add_comm, mul_assoc, mul_comm, eq-zero-or-pos, not-suc-le-zero, arith, shr-shr, bit_xor, T, eqb, eqb→eq, lit<, length, get_or}
use native.Mathlib.Nat.{zero-div}
use lib.Pow.{split, field, mod-mod-pow}
use lib.Bits.{xor_lt, xor_mod}
use lib.Seq.{sets, length-sets}
use Rattle.gf128.specs.Field.{times_x, shifted_of, reduction, shifted, product}
use Rattle.gf128.proofs.Nibbles.{shifted_of-multiple, product_of-place, product_of-digits}
use Rattle.gf128.proofs.Places.{shifted_of-add, shifted_of-xor, product_of-zero-left}
use Rattle.gf128.proofs.Tests.{and_left, and_right, all_below, all_below-at}
use Rattle.gf128.proofs.Xor.{xor_assoc, xor-shl}
use Rattle.octets.proofs.Stores.{sets-at, sets-other}
use Rattle.gf128.proofs.Halves.{top_digit, halves-xor}
use Rattle.ghash_block.specs.declared.block.Block.{Block}
use Rattle.ghash_block.specs.Block.{value_of}
use Rattle.ghash_tables.specs.Table.{pair_at, nibble, four_of, MultiplesPut, ReductionsAt, ReductionsIn, TablesTo}

-- ---- the reductions

-- the test of entry n: the block with e as its high half is n, times x four times, and e ends in 32 zeros
abbrev pub reduces : ℕ → ℕ → Bool
reduces n e = eqb (e * 2 ^ 64) (shifted n 4) && eqb (e % 2 ^ 32) 0

pub reduced : (r : List ℕ) → T (all_below 16 (λ n. reduces n (get_or r (0 + n) 0))) → ReductionsAt 0 r
reduced r passes = record {
  overflow = λ n h.
      let e = get_or r (0 + n) 0 in eqb→eq (e * 2 ^ 64) (shifted n 4) (and_left (eqb (e * 2 ^ 64) (shifted n 4)) (eqb (e % 2 ^ 32) 0) (test n h));
  zeros = λ n h. let e = get_or r (0 + n) 0 in eqb→eq (e % 2 ^ 32) 0 (and_right (eqb (e * 2 ^ 64) (shifted n 4)) (eqb (e % 2 ^ 32) 0) (test n h));
}
  where
    test : (n : ℕ) → n < 16 → T (reduces n (get_or r (0 + n) 0))
    test = all_below-at 16 (λ n. reduces n (get_or r (0 + n) 0)) passes

-- ---- four at a time

-- four digits leave, after i times four of them
pub four-leave : (u i : ℕ) {v n : ℕ} → v ≡ u / 2 ^ (4 * i) → 4 * i + 4 ≡ n → v / 2 ^ 4 ≡ u / 2 ^ n
four-leave u i e next = ap (λ (x : ℕ). x / 2 ^ 4) e ∙ shr-shr u (4 * i) 4 ∙ ap (λ (x : ℕ). u / 2 ^ x) next

-- what stays of a number that ends in k + j zeros when j of them leave
ends : (a j k : ℕ) → a % 2 ^ (k + j) ≡ 0 → a / 2 ^ j % 2 ^ k ≡ 0
ends a j k e =
    sym (field a k j) ∙ ap (λ (x : ℕ). x / 2 ^ j) e ∙ zero-div (2 ^ j)

-- r is what the first k of v's last coefficients come back as, and ends in l + 4 zeros; e is the reduction of the next four
module _ (R v k l w r e : ℕ) (er : r * 2 ^ w ≡ shifted_of R (v % 2 ^ k) k) (zr : r % 2 ^ (l + 4) ≡ 0) where
  pub overflow-ends : e % 2 ^ l ≡ 0 → bit_xor (r / 2 ^ 4) e % 2 ^ l ≡ 0
  overflow-ends z = xor_mod (r / 2 ^ 4) e l ∙ ap₂ bit_xor (ends r 4 l zr) z

  moved_on : r / 2 ^ 4 * 2 ^ w ≡ shifted_of R (r * 2 ^ w) 4
  moved_on =
      let whole : r / 2 ^ 4 * 2 ^ 4 ≡ r = sym (add-zero (r / 2 ^ 4 * 2 ^ 4))
      ∙ ap (λ (x : ℕ). r / 2 ^ 4 * 2 ^ 4 + x) (sym (sym (mod-mod-pow r l 4) ∙ ap (λ (x : ℕ). x % 2 ^ 4) zr)) ∙ split r 4 in
      sym (shifted_of-multiple R (r / 2 ^ 4 * 2 ^ w) 4)
      ∙ ap (λ (x : ℕ). shifted_of R x 4)
      (mul_assoc (r / 2 ^ 4) (2 ^ w) (2 ^ 4) ∙ ap (λ (x : ℕ). r / 2 ^ 4 * x) (mul_comm (2 ^ w) (2 ^ 4))
      ∙ sym (mul_assoc (r / 2 ^ 4) (2 ^ 4) (2 ^ w)) ∙ ap (λ (x : ℕ). x * 2 ^ w) whole)

  pub overflow-more : e * 2 ^ w ≡ shifted_of R (v / 2 ^ k % 2 ^ 4) 4 → bit_xor (r / 2 ^ 4) e * 2 ^ w ≡ shifted_of R (v % 2 ^ (k + 4)) (k + 4)
  overflow-more ee =
      let n = v / 2 ^ k % 2 ^ 4 in
      xor-shl (r / 2 ^ 4) e w
      ∙ ap₂ bit_xor (moved_on ∙ ap (λ (x : ℕ). shifted_of R x 4) er ∙ sym (shifted_of-add R (v % 2 ^ k) k 4))
      (ee ∙ ap (λ (x : ℕ). shifted_of R x 4) (sym (shifted_of-multiple R n k)) ∙ sym (shifted_of-add R (n * 2 ^ k) k 4))
      ∙ sym (shifted_of-xor R (v % 2 ^ k) (n * 2 ^ k) (k + 4))
      ∙ ap (λ (x : ℕ). shifted_of R x (k + 4))
      (top_digit v 4 k ∙ ap (λ (x : ℕ). v % 2 ^ x) (add_comm 4 k))

-- ---- the multiples

pub none-put : (t : List ℕ) (at h : ℕ) → MultiplesPut t at h 0 t
none-put t at h = record { entry = λ n l. absurd (not-suc-le-zero l); below = λ i l. refl; above = λ i l. refl }

module _ (h : ℕ) (b h1 h2 : Block) (hb : b.1 < 2 ^ 64) (l1 : h1.1 < 2 ^ 64) (l2 : h2.1 < 2 ^ 64)
    (e1 : value_of h1 ≡ product (nibble 1) h) (e2 : value_of h2 ≡ product (nibble 2) h) where
  -- if b is multiple 4 · a, the four are the multiples from 4 · a on
  four-pair : (a r : ℕ) → value_of b ≡ product (nibble (a * 4)) h → r < 4 → pair_at (four_of b h1 h2) (2 * r) ≡ product (nibble (a * 4 + r)) h
  four-pair a zero e l = e ∙ ap (λ (x : ℕ). product (nibble x) h) (sym (add-zero (a * 4)))
  four-pair a (suc zero) e l =
      halves-xor 64 b.0 h1.0 b.1 h1.1 hb l1 ∙ ap₂ bit_xor e e1 ∙ sym (product_of-digits 127 reduction 2 124 a 1 h l)
  four-pair a (suc (suc zero)) e l =
      halves-xor 64 b.0 h2.0 b.1 h2.1 hb l2 ∙ ap₂ bit_xor e e2 ∙ sym (product_of-digits 127 reduction 2 124 a 2 h l)
  four-pair a (suc (suc (suc zero))) e l =
      halves-xor 64 (bit_xor b.0 h2.0) h1.0 (bit_xor b.1 h2.1) h1.1 (xor_lt 64 b.1 h2.1 hb l2) l1
      ∙ ap (λ (x : ℕ). bit_xor x (value_of h1)) (halves-xor 64 b.0 h2.0 b.1 h2.1 hb l2)
      ∙ xor_assoc (value_of b) (value_of h2) (value_of h1)
      ∙ ap₂ bit_xor e (ap₂ bit_xor e2 e1 ∙ sym (product_of-digits 127 reduction 1 124 1 1 h (lit< tt)))
      ∙ sym (product_of-digits 127 reduction 2 124 a 3 h l)
  four-pair a (suc (suc (suc (suc r)))) e l = absurd (no_more r l)
    where
      no_more : (r : ℕ) → suc (suc (suc (suc r))) < 4 → ⊥
      no_more r l = omega arith

  module _ (t t' : List ℕ) (at p a : ℕ) (place : p ≡ at + 8 * a) (room : p + 8 ≤ length t')
      (e : value_of b ≡ product (nibble (a * 4)) h) (m : MultiplesPut t at h (a * 4) t') where
    after : List ℕ
    after = sets t' p (four_of b h1 h2)

    -- what stood before p stands, and the four stand from p on
    old-pair : (i : ℕ) → i + 1 < p → pair_at after i ≡ pair_at t' i
    unfolding after
    old-pair i l =
        ap₂ (λ (x y : ℕ). x * 2 ^ 64 + y) (sets-other t' p (four_of b h1 h2) i (λ w. omega arith)) (sets-other t' p (four_of b h1 h2) (i + 1) (λ w. omega arith))

    new-pair : (r : ℕ) → r < 4 → pair_at after (p + 2 * r) ≡ pair_at (four_of b h1 h2) (2 * r)
    unfolding after
    new-pair r l =
        ap₂ (λ (x y : ℕ). x * 2 ^ 64 + y) (sets-at t' p (four_of b h1 h2) (2 * r) room (omega arith))
        (ap (λ (x : ℕ). get_or after x 0) (add_assoc p (2 * r) 1) ∙ sets-at t' p (four_of b h1 h2) (2 * r + 1) room (omega arith))

    entries : (n : ℕ) → n < a * 4 + 4 → pair_at after (at + 2 * n) ≡ product (nibble n) h
    entries n l =
        ⊎_elim
        (λ (new : a * 4 - n ≡ 0).
        let r = n - a * 4 in
        let is : a * 4 + r ≡ n = omega arith in
        let i : at + 2 * n ≡ p + 2 * r = omega arith in
        ap (pair_at after) i ∙ new-pair r (omega arith) ∙ four-pair a r e (omega arith) ∙ ap (λ (x : ℕ). product (nibble x) h) is)
        (λ (old : 0 < a * 4 - n). old-pair (at + 2 * n) (omega arith) ∙ m.entry n (omega arith))
        (eq-zero-or-pos (a * 4 - n))

    pub four-more : (t'' : List ℕ) → t'' ≡ sets t' p (four_of b h1 h2) → MultiplesPut t at h (a * 4 + 4) t''
    unfolding after
    four-more t'' stored = rw stored record {
      entry = entries;
      below = λ i l. sets-other t' p (four_of b h1 h2) i (λ w. omega arith) ∙ m.below i l;
      above = λ i l. sets-other t' p (four_of b h1 h2) i (λ w. omega arith) ∙ m.above i (omega arith);
    }

-- the sixteen, four at a time: 8, 4, 2 and 1 are h times x, no to three times; 12 is a sum, and so are the others
module _ (h h4 h2 h1 h12 : Block) (l8 : h.1 < 2 ^ 64) (l4 : h4.1 < 2 ^ 64) (l2 : h2.1 < 2 ^ 64) (l1 : h1.1 < 2 ^ 64) (l12 : h12.1 < 2 ^ 64)
    (e4 : value_of h4 ≡ times_x (value_of h)) (e2 : value_of h2 ≡ times_x (value_of h4)) (e1 : value_of h1 ≡ times_x (value_of h2))
    (e12 : value_of h12 ≡ bit_xor (value_of h) (value_of h4)) where
  is-8 : value_of h ≡ product (nibble 8) (value_of h)
  unfolding shifted_of
  is-8 = sym (product_of-place 127 reduction 0 127 (value_of h) refl)

  is-4 : value_of h4 ≡ product (nibble 4) (value_of h)
  unfolding shifted_of
  is-4 = e4 ∙ sym (product_of-place 127 reduction 1 126 (value_of h) refl)

  is-2 : value_of h2 ≡ product (nibble 2) (value_of h)
  unfolding shifted_of
  is-2 = e2 ∙ ap times_x e4 ∙ sym (product_of-place 127 reduction 2 125 (value_of h) refl)

  is-1 : value_of h1 ≡ product (nibble 1) (value_of h)
  unfolding shifted_of
  is-1 = e1 ∙ ap times_x (e2 ∙ ap times_x e4) ∙ sym (product_of-place 127 reduction 3 124 (value_of h) refl)

  is-12 : value_of h12 ≡ product (nibble 12) (value_of h)
  is-12 = e12 ∙ ap₂ bit_xor is-8 is-4 ∙ sym (product_of-digits 127 reduction 3 124 1 4 (value_of h) (lit< tt))

  pub sixteen-put : (t t1 t2 t3 t4 : List ℕ) (at : ℕ) → at + 32 ≤ length t
      → t1 ≡ sets t at (four_of (0, 0) h1 h2) → t2 ≡ sets t1 (at + 8) (four_of h4 h1 h2)
      → t3 ≡ sets t2 (at + 16) (four_of h h1 h2) → t4 ≡ sets t3 (at + 24) (four_of h12 h1 h2)
      → MultiplesPut t at (value_of h) 16 t4
  sixteen-put t t1 t2 t3 t4 at room s1 s2 s3 s4 =
      let n1 : length t1 ≡ length t = ap length s1 ∙ length-sets t at (four_of (0, 0) h1 h2) in
      let n2 : length t2 ≡ length t = ap length s2 ∙ length-sets t1 (at + 8) (four_of h4 h1 h2) ∙ n1 in
      let n3 : length t3 ≡ length t = ap length s3 ∙ length-sets t2 (at + 16) (four_of h h1 h2) ∙ n2 in
      let none : 0 ≡ product (nibble 0) (value_of h) = sym (product_of-zero-left 127 reduction (value_of h)) in
      let m1 = four-more (value_of h) (0, 0) h1 h2 (lit< tt) l1 l2 is-1 is-2 t t at at 0 (omega arith) (omega arith) none (none-put t at (value_of h)) t1 s1 in
      let m2 = four-more (value_of h) h4 h1 h2 l4 l1 l2 is-1 is-2 t t1 at (at + 8) 1 (omega arith) (omega arith) is-4 m1 t2 s2 in
      let m3 = four-more (value_of h) h h1 h2 l8 l1 l2 is-1 is-2 t t2 at (at + 16) 2 (omega arith) (omega arith) is-8 m2 t3 s3 in
      four-more (value_of h) h12 h1 h2 l12 l1 l2 is-1 is-2 t t3 at (at + 24) 3 (omega arith) (omega arith) is-12 m3 t4 s4

-- ---- the tables

-- the multiples stand before the reductions
pub reductions-kept : (t t' : List ℕ) (at h : ℕ) → at ≤ 96 → MultiplesPut t at h 16 t' → ReductionsIn t → ReductionsIn t'
reductions-kept t t' at h l m r = record {
  overflow = λ n ln. ap (λ (x : ℕ). x * 2 ^ 64) (m.above (128 + n) (omega arith)) ∙ r.overflow n ln;
  zeros = λ n ln. ap (λ (x : ℕ). x % 2 ^ 32) (m.above (128 + n) (omega arith)) ∙ r.zeros n ln;
}

pub no_table : (h : ℕ) (t : List ℕ) → ReductionsIn t → TablesTo 0 h t
no_table h t r = record { entry = λ q n l ln. absurd (not-suc-le-zero l); reductions = r }

-- one table more
pub next-table : (k h g : ℕ) (t t' : List ℕ) → k < 4 → TablesTo k h t → g ≡ shifted h (32 * k) → MultiplesPut t (32 * k) g 16 t' → TablesTo (k + 1) h t'
next-table k h g t t' l tables e m = record {
  entry = λ q n lq ln.
      ⊎_elim
      (λ (new : k - q ≡ 0).
      let is : k ≡ q = omega arith in
      subst (λ (x : ℕ). pair_at t' (32 * x + 2 * n) ≡ product (nibble n) (shifted h (32 * x))) is
      (m.entry n ln ∙ ap (product (nibble n)) e))
      (λ (old : 0 < k - q).
      ap₂ (λ (x y : ℕ). x * 2 ^ 64 + y) (m.below (32 * q + 2 * n) (omega arith)) (m.below (32 * q + 2 * n + 1) (omega arith))
      ∙ tables.entry q n (omega arith) ln)
      (eq-zero-or-pos (k - q));
  reductions = reductions-kept t t' (32 * k) g (omega arith) m tables.reductions;
}
