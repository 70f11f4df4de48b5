-- The degree by trailing zeros: coefficient 0 is a block's highest binary digit, so the highest place with a nonzero
-- coefficient is that of the lowest set digit. Main results: `degree-trailing`, and `degree-low` and `degree-high` by halves.
-- Assumes nothing.
use mathlib.Core.Path.{◌≡◌, refl, sym, ap, ap₂, ◌∙◌, subst}
use mathlib.Core.Bool.{cond}
use mathlib.Core.Logic.{◌⊎◌, inl, inr}
use Prim.Native.Nat.{ℕ, zero, suc, ◌+◌, ◌-◌, ◌*◌, ◌/◌, ◌%◌, ◌^◌, ◌≤◌, ◌<◌, suc-le-suc}
use native.Mathlib.Nat.{add-zero, zero-add, add-suc, suc-add, mul-one, div-one, zero-div, div-div-eq-div-mul, pow-succ', pow-suc, mod-lt, zero-lt-suc, not-suc-le-zero, le_of_suc-le-suc, lt_irrefl, eq-or-lt_of_le, le_step, le_refl, div-lt_iff_lt-mul}
use native.Mathlib.Omega.{arith}
use lib.Arith.{lt-one, sub-sub_self}
use lib.Bits.{block_half, block_odd, shifted_half, shifted_even}
use lib.Count.{count_trailing_zeros, under}
use lib.Dec.{eqb}
use borrow.Author.Tests.{eq-eqb, ne_eqb}
use Rattle.gf128.specs.Field.{coeff_of}
use Rattle.gf128.specs.Degree.{highest, degree_of}

-- ---- the lowest set digit stands at `count_trailing_zeros`

digit-zero : (v : ℕ) → v / 2 ^ 0 % 2 ≡ v % 2
digit-zero v = ap (λ (x : ℕ). x % 2) (div-one v)

digit-suc : (v j : ℕ) → v / 2 ^ suc j % 2 ≡ v / 2 / 2 ^ j % 2
digit-suc v j = ap (λ (x : ℕ). x % 2) (ap (λ (x : ℕ). v / x) (pow-succ' 2 j) ∙ sym (div-div-eq-div-mul v 2 (2 ^ j)))

pub trailing-set : (k v : ℕ) → count_trailing_zeros k v < k → v / 2 ^ count_trailing_zeros k v % 2 ≡ 1
unfolding count_trailing_zeros
trailing-set zero v h = absurd (not-suc-le-zero h)
trailing-set (suc k) v h = go (v % 2) refl (mod-lt v (zero-lt-suc 1)) (trailing-set k (v / 2)) h
  where
    go : {t : ℕ} (d : ℕ) → v % 2 ≡ d → d < 2 → (t < k → v / 2 / 2 ^ t % 2 ≡ 1) → under d t < suc k → v / 2 ^ under d t % 2 ≡ 1
    go {t} zero e b rest l = digit-suc v t ∙ rest (le_of_suc-le-suc l)
    go (suc zero) e b rest l = digit-zero v ∙ e
    go (suc (suc d)) e b rest l = absurd (not-suc-le-zero (le_of_suc-le-suc (le_of_suc-le-suc b)))

pub trailing-clear : (k v j : ℕ) → j < count_trailing_zeros k v → v / 2 ^ j % 2 ≡ 0
unfolding count_trailing_zeros
trailing-clear zero v j h = absurd (not-suc-le-zero h)
trailing-clear (suc k) v j h = go (v % 2) refl (trailing-clear k (v / 2)) j h
  where
    go : {t : ℕ} (d : ℕ) → v % 2 ≡ d → ((i : ℕ) → i < t → v / 2 / 2 ^ i % 2 ≡ 0) → (i : ℕ) → i < under d t → v / 2 ^ i % 2 ≡ 0
    go zero e rest zero l = digit-zero v ∙ e
    go zero e rest (suc i) l = digit-suc v i ∙ rest i (le_of_suc-le-suc l)
    go (suc d) e rest i l = absurd (not-suc-le-zero l)

pub trailing_lt : (k v : ℕ) → 0 < v → v < 2 ^ k → count_trailing_zeros k v < k
unfolding count_trailing_zeros
trailing_lt zero v p h = absurd (lt_irrefl 0 (subst (λ (x : ℕ). 0 < x) (lt-one h) p))
trailing_lt (suc k) v p h =
    go (v % 2) refl (λ q. trailing_lt k (v / 2) q ((div-lt_iff_lt-mul (zero-lt-suc 1)).1 (rw pow-suc at h)))
  where
    go : {t : ℕ} (d : ℕ) → v % 2 ≡ d → (0 < v / 2 → t < k) → under d t < suc k
    go zero e rest = suc-le-suc (rest (omega arith))
    go (suc d) e rest = zero-lt-suc k

-- ---- by halves: j digits a above k digits r

pub trailing-low : (j k a r : ℕ) → count_trailing_zeros k r < k → count_trailing_zeros (j + k) (a * 2 ^ k + r) ≡ count_trailing_zeros k r
unfolding count_trailing_zeros
trailing-low j zero a r h = absurd (not-suc-le-zero h)
trailing-low j (suc k) a r h =
    ap (λ (x : ℕ). count_trailing_zeros x (a * 2 ^ suc k + r)) (add-suc j k)
    ∙ ap₂ (λ (x y : ℕ). under x (count_trailing_zeros (j + k) y)) (block_odd a k r) (block_half a k r)
    ∙ go (r % 2) (trailing-low j k a (r / 2)) h
  where
    go : {t t' : ℕ} (d : ℕ) → (t < k → t' ≡ t) → under d t < suc k → under d t' ≡ under d t
    go zero rest l = ap suc (rest (le_of_suc-le-suc l))
    go (suc d) rest l = refl

pub trailing-high : (j k a : ℕ) → count_trailing_zeros (j + k) (a * 2 ^ k) ≡ k + count_trailing_zeros j a
unfolding count_trailing_zeros
trailing-high j zero a = ap₂ count_trailing_zeros (add-zero j) (mul-one a) ∙ sym (zero-add (count_trailing_zeros j a))
trailing-high j (suc k) a =
    ap (λ (x : ℕ). count_trailing_zeros x (a * 2 ^ suc k)) (add-suc j k)
    ∙ ap₂ (λ (x y : ℕ). under x (count_trailing_zeros (j + k) y)) (shifted_even a k) (shifted_half a k)
    ∙ ap suc (trailing-high j k a)
    ∙ sym (suc-add k (count_trailing_zeros j a))

-- ---- the degree

highest-is : (u n p : ℕ) → p < n → coeff_of 127 u p ≡ 1 → ((q : ℕ) → p < q → q < n → coeff_of 127 u q ≡ 0) → highest u n ≡ p
unfolding highest
highest-is u zero p h one none = absurd (not-suc-le-zero h)
highest-is u (suc n) p h one none =
    go (λ l. highest-is u n p l one (λ q g b. none q g (le_step b))) (eq-or-lt_of_le (le_of_suc-le-suc h))
  where
    go : (p < n → highest u n ≡ p) → (p ≡ n) ⊎ (p < n) → cond (eqb (coeff_of 127 u n) 0) (highest u n) n ≡ p
    go rest (inl e) =
        let c : coeff_of 127 u n ≡ 1 = ap (coeff_of 127 u) (sym e) ∙ one in
        rw (ne_eqb (coeff_of 127 u n) 0 (omega arith)) (sym e)
    go rest (inr l) = rw (eq-eqb (coeff_of 127 u n) 0 (none n l (le_refl (suc n)))) (rest l)

highest-none : (n : ℕ) → highest 0 n ≡ 0
unfolding highest coeff_of
highest-none zero = refl
highest-none (suc n) = rw (eq-eqb (0 / 2 ^ (127 - n) % 2) 0 (ap (λ (x : ℕ). x % 2) (zero-div (2 ^ (127 - n))))) (highest-none n)

-- the zero block's place
pub degree-none : degree_of 0 ≡ 0
unfolding degree_of
degree-none = highest-none 128

pub degree-trailing : (u : ℕ) → count_trailing_zeros 128 u < 128 → degree_of u ≡ 127 - count_trailing_zeros 128 u
unfolding degree_of coeff_of
degree-trailing u h =
    let t = count_trailing_zeros 128 u in
    let le : t ≤ 127 = omega arith in
    highest-is u 128 (127 - t) (omega arith)
    (ap (λ (x : ℕ). u / 2 ^ x % 2) (sub-sub_self le) ∙ trailing-set 128 u h)
    (λ q g b. trailing-clear 128 u (127 - q) (omega arith))

pub degree-low : (a r : ℕ) → count_trailing_zeros 64 r < 64 → degree_of (a * 2 ^ 64 + r) ≡ 127 - count_trailing_zeros 64 r
degree-low a r h =
    let e = trailing-low 64 64 a r h in
    degree-trailing (a * 2 ^ 64 + r) (omega (arith, e)) ∙ ap (λ (x : ℕ). 127 - x) e

pub degree-high : (a : ℕ) → count_trailing_zeros 64 a < 64 → degree_of (a * 2 ^ 64) ≡ 63 - count_trailing_zeros 64 a
degree-high a h =
    let e = trailing-high 64 64 a in
    degree-trailing (a * 2 ^ 64) (omega (arith, e)) ∙ omega (arith, e)
