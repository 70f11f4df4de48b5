-- Places of a block: bounds, and what xor and times x do to coefficients, sums and products.
-- Main result for readers, at GHASH's numbers: `times-x-by-places` (document 01's step of V). The laws over any last place m and
-- constant R stand first.
-- Assumes nothing.
use mathlib.Core.Path.{◌≡◌, refl, sym, ap, ap₂, ◌∙◌, subst}
use mathlib.Core.Bool.{Bool, true, false, cond, ◌&&◌}
use Prim.Native.Nat.{ℕ, zero, suc, ◌+◌, ◌-◌, ◌*◌, ◌/◌, ◌%◌, ◌^◌, ◌<◌}
use native.Mathlib.Nat.{zero-mul, one-mul, mul-zero, zero-div, div-one, mod-lt, zero-lt-suc, lt_of_le_of_lt, div-le_self, add-zero, add-suc, sub_self, sub-zero, div-eq_of_lt, le_of_suc-le-suc, not-suc-le-zero}
use native.Mathlib.Numerals.{add-one}
use native.Mathlib.Omega.{arith}
use lib.Bits.{bit_xor, xor_lt, xor_shr, xor_zero_r, xor_self}
use lib.Pow.{pow_pos, shr-shr, shr_lt}
use lib.Dec.{eqb, eqb→eq, lit<}
use Rattle.gf128.specs.Field.{coeff_of, times_x_of, shifted_of, sum_of, product_of, coefficient, reduction}
use Rattle.gf128.specs.Places.{flips, TimesXByPlaces}
use Rattle.gf128.proofs.Tests.{all_below-at}
use Rattle.gf128.proofs.Xor.{xor-odd, xor-half, xor-swap4}

-- ---- a digit, 0 or 1, scales a number

pub digit-ind : (P : ℕ → Type 0) → P 0 → P 1 → (b : ℕ) → b < 2 → P b
digit-ind P p q zero h = p
digit-ind P p q (suc zero) h = q
digit-ind P p q (suc (suc b)) h = absurd (not-suc-le-zero (le_of_suc-le-suc (le_of_suc-le-suc h)))

pub mod2-lt : (n : ℕ) → n % 2 < 2
mod2-lt n = mod-lt n (zero-lt-suc 1)

-- a sum of digits scales
pub digit-xor : (b c v : ℕ) → b < 2 → c < 2 → bit_xor b c * v ≡ bit_xor (b * v) (c * v)
digit-xor b c v hb hc =
    digit-ind (λ b. bit_xor b c * v ≡ bit_xor (b * v) (c * v))
    (ap (λ (x : ℕ). bit_xor x (c * v)) (sym (zero-mul v)))
    (digit-ind (λ c. bit_xor 1 c * v ≡ bit_xor (1 * v) (c * v))
    (sym (ap (bit_xor (1 * v)) (zero-mul v) ∙ xor_zero_r (1 * v)))
    (zero-mul v ∙ sym (xor_self (1 * v))) c hc)
    b hb

-- what keeps 0 keeps scaling by a digit
pub digit-map : (f : ℕ → ℕ) → f 0 ≡ 0 → (b v : ℕ) → b < 2 → f (b * v) ≡ b * f v
digit-map f f0 b v hb =
    digit-ind (λ b. f (b * v) ≡ b * f v)
    (ap f (zero-mul v) ∙ f0 ∙ sym (zero-mul (f v)))
    (ap f (one-mul v) ∙ sym (one-mul (f v)))
    b hb

-- a digit scales a sum
pub xor-digit : (b u v : ℕ) → b < 2 → b * bit_xor u v ≡ bit_xor (b * u) (b * v)
xor-digit b u v hb =
    digit-ind (λ b. b * bit_xor u v ≡ bit_xor (b * u) (b * v))
    (zero-mul (bit_xor u v) ∙ sym (ap₂ bit_xor (zero-mul u) (zero-mul v)))
    (one-mul (bit_xor u v) ∙ sym (ap₂ bit_xor (one-mul u) (one-mul v)))
    b hb

pub digit_lt : (b v n : ℕ) → b < 2 → v < n → b * v < n
digit_lt b v n hb hv =
    digit-ind (λ b. b * v < n)
    (subst (λ (x : ℕ). x < n) (sym (zero-mul v)) (omega arith))
    (subst (λ (x : ℕ). x < n) (sym (one-mul v)) hv)
    b hb

-- ---- coefficients

pub coeff_of-lt : (m u k : ℕ) → coeff_of m u k < 2
unfolding coeff_of
coeff_of-lt m u k = mod2-lt (u / 2 ^ (m - k))

pub coeff_of-xor : (m a b k : ℕ) → coeff_of m (bit_xor a b) k ≡ bit_xor (coeff_of m a k) (coeff_of m b k)
unfolding coeff_of
coeff_of-xor m a b k = ap (λ (x : ℕ). x % 2) (xor_shr a b (m - k)) ∙ xor-odd (a / 2 ^ (m - k)) (b / 2 ^ (m - k))

pub coeff_of-zero : (m k : ℕ) → coeff_of m 0 k ≡ 0
unfolding coeff_of
coeff_of-zero m k = ap (λ (x : ℕ). x % 2) (zero-div (2 ^ (m - k)))

pub coeff_of-last : (m u : ℕ) → coeff_of m u m ≡ u % 2
unfolding coeff_of
coeff_of-last m u = ap (λ (x : ℕ). u / 2 ^ x % 2) (sub_self m) ∙ ap (λ (x : ℕ). x % 2) (div-one u)

-- ---- times x

pub times_x_of-zero : (R : ℕ) → times_x_of R 0 ≡ 0
unfolding times_x_of
times_x_of-zero R = zero-mul R

pub times_x_of-xor : (R a b : ℕ) → times_x_of R (bit_xor a b) ≡ bit_xor (times_x_of R a) (times_x_of R b)
unfolding times_x_of
times_x_of-xor R a b =
    ap₂ (λ (x y : ℕ). bit_xor x (y * R)) (xor-half a b) (xor-odd a b)
    ∙ ap (bit_xor (bit_xor (a / 2) (b / 2))) (digit-xor (a % 2) (b % 2) R (mod2-lt a) (mod2-lt b))
    ∙ xor-swap4 (a / 2) (b / 2) (a % 2 * R) (b % 2 * R)

-- ---- times x, k times; sums and products

module _ (R : ℕ) where
  pub shifted_of-zero : (k : ℕ) → shifted_of R 0 k ≡ 0
  unfolding shifted_of
  shifted_of-zero zero = refl
  shifted_of-zero (suc k) = ap (times_x_of R) (shifted_of-zero k) ∙ times_x_of-zero R

  pub shifted_of-xor : (a b k : ℕ) → shifted_of R (bit_xor a b) k ≡ bit_xor (shifted_of R a k) (shifted_of R b k)
  unfolding shifted_of
  shifted_of-xor a b zero = refl
  shifted_of-xor a b (suc k) = ap (times_x_of R) (shifted_of-xor a b k) ∙ times_x_of-xor R (shifted_of R a k) (shifted_of R b k)

  -- what goes through times x goes through any number of them
  pub shifted_of-map : (f : ℕ → ℕ) → ((v : ℕ) → f (times_x_of R v) ≡ times_x_of R (f v)) → (h k : ℕ) → f (shifted_of R h k) ≡ shifted_of R (f h) k
  unfolding shifted_of
  shifted_of-map f ft h zero = refl
  shifted_of-map f ft h (suc k) = ft (shifted_of R h k) ∙ ap (times_x_of R) (shifted_of-map f ft h k)

  pub shifted_of-times_x : (h k : ℕ) → shifted_of R (times_x_of R h) k ≡ times_x_of R (shifted_of R h k)
  shifted_of-times_x h k = sym (shifted_of-map (times_x_of R) (λ v. refl) h k)

  pub shifted_of-add : (h j k : ℕ) → shifted_of R h (j + k) ≡ shifted_of R (shifted_of R h j) k
  unfolding shifted_of
  shifted_of-add h j zero = ap (shifted_of R h) (add-zero j)
  shifted_of-add h j (suc k) = ap (shifted_of R h) (add-suc j k) ∙ ap (times_x_of R) (shifted_of-add h j k)

module _ (m R : ℕ) where
  pub sum_of-xor-right : (u a b k : ℕ) → sum_of m R u (bit_xor a b) k ≡ bit_xor (sum_of m R u a k) (sum_of m R u b k)
  unfolding sum_of
  sum_of-xor-right u a b zero = refl
  sum_of-xor-right u a b (suc k) =
      ap₂ bit_xor (sum_of-xor-right u a b k)
      (ap (λ (x : ℕ). coeff_of m u k * x) (shifted_of-xor R a b k) ∙ xor-digit (coeff_of m u k) (shifted_of R a k) (shifted_of R b k) (coeff_of-lt m u k))
      ∙ xor-swap4 (sum_of m R u a k) (sum_of m R u b k) (coeff_of m u k * shifted_of R a k) (coeff_of m u k * shifted_of R b k)

  pub sum_of-xor-left : (u v h k : ℕ) → sum_of m R (bit_xor u v) h k ≡ bit_xor (sum_of m R u h k) (sum_of m R v h k)
  unfolding sum_of
  sum_of-xor-left u v h zero = refl
  sum_of-xor-left u v h (suc k) =
      ap₂ bit_xor (sum_of-xor-left u v h k)
      (ap (λ (x : ℕ). x * shifted_of R h k) (coeff_of-xor m u v k)
      ∙ digit-xor (coeff_of m u k) (coeff_of m v k) (shifted_of R h k) (coeff_of-lt m u k) (coeff_of-lt m v k))
      ∙ xor-swap4 (sum_of m R u h k) (sum_of m R v h k) (coeff_of m u k * shifted_of R h k) (coeff_of m v k * shifted_of R h k)

  -- an additive map that goes through times x goes through a sum
  pub sum_of-map : (f : ℕ → ℕ) → ((a b : ℕ) → f (bit_xor a b) ≡ bit_xor (f a) (f b)) → ((v : ℕ) → f (times_x_of R v) ≡ times_x_of R (f v))
      → (u h k : ℕ) → f (sum_of m R u h k) ≡ sum_of m R u (f h) k
  unfolding sum_of
  sum_of-map f fx ft u h zero = fx 0 0 ∙ xor_self (f 0)
  sum_of-map f fx ft u h (suc k) =
      fx (sum_of m R u h k) (coeff_of m u k * shifted_of R h k)
      ∙ ap₂ bit_xor (sum_of-map f fx ft u h k)
      (digit-map f (fx 0 0 ∙ xor_self (f 0)) (coeff_of m u k) (shifted_of R h k) (coeff_of-lt m u k)
      ∙ ap (λ (x : ℕ). coeff_of m u k * x) (shifted_of-map R f ft h k))

  pub sum_of-zero-left : (h k : ℕ) → sum_of m R 0 h k ≡ 0
  unfolding sum_of
  sum_of-zero-left h zero = refl
  sum_of-zero-left h (suc k) =
      ap₂ bit_xor (sum_of-zero-left h k) (ap (λ (x : ℕ). x * shifted_of R h k) (coeff_of-zero m k) ∙ zero-mul (shifted_of R h k))

  pub sum_of-zero-right : (u k : ℕ) → sum_of m R u 0 k ≡ 0
  unfolding sum_of
  sum_of-zero-right u zero = refl
  sum_of-zero-right u (suc k) =
      ap₂ bit_xor (sum_of-zero-right u k) (ap (λ (x : ℕ). coeff_of m u k * x) (shifted_of-zero R k) ∙ mul-zero (coeff_of m u k))

  pub product_of-xor-right : (u a b : ℕ) → product_of m R u (bit_xor a b) ≡ bit_xor (product_of m R u a) (product_of m R u b)
  unfolding product_of
  product_of-xor-right u a b = sum_of-xor-right u a b (suc m)

  pub product_of-xor-left : (u v h : ℕ) → product_of m R (bit_xor u v) h ≡ bit_xor (product_of m R u h) (product_of m R v h)
  unfolding product_of
  product_of-xor-left u v h = sum_of-xor-left u v h (suc m)

  pub product_of-map : (f : ℕ → ℕ) → ((a b : ℕ) → f (bit_xor a b) ≡ bit_xor (f a) (f b)) → ((v : ℕ) → f (times_x_of R v) ≡ times_x_of R (f v))
      → (u h : ℕ) → f (product_of m R u h) ≡ product_of m R u (f h)
  unfolding product_of
  product_of-map f fx ft u h = sum_of-map f fx ft u h (suc m)

  pub product_of-times_x : (u h : ℕ) → product_of m R u (times_x_of R h) ≡ times_x_of R (product_of m R u h)
  product_of-times_x u h = sym (product_of-map (times_x_of R) (times_x_of-xor R) (λ v. refl) u h)

  pub product_of-shifted : (u h k : ℕ) → product_of m R u (shifted_of R h k) ≡ shifted_of R (product_of m R u h) k
  product_of-shifted u h k = shifted_of-map R (product_of m R u) (product_of-times_x u) h k

  pub product_of-zero-left : (h : ℕ) → product_of m R 0 h ≡ 0
  unfolding product_of
  product_of-zero-left h = sum_of-zero-left h (suc m)

  pub product_of-zero-right : (u : ℕ) → product_of m R u 0 ≡ 0
  unfolding product_of
  product_of-zero-right u = sum_of-zero-right u (suc m)

-- ---- bounds: everything stays below 2 ^ suc m

module _ (m R : ℕ) (hR : R < 2 ^ suc m) where
  pub times_x_of-lt : (v : ℕ) → v < 2 ^ suc m → times_x_of R v < 2 ^ suc m
  unfolding times_x_of
  times_x_of-lt v hv = xor_lt (suc m) (v / 2) (v % 2 * R) (lt_of_le_of_lt (div-le_self v 2) hv) (digit_lt (v % 2) R (2 ^ suc m) (mod2-lt v) hR)

  pub shifted_of-lt : (h k : ℕ) → h < 2 ^ suc m → shifted_of R h k < 2 ^ suc m
  unfolding shifted_of
  shifted_of-lt h zero hh = hh
  shifted_of-lt h (suc k) hh = times_x_of-lt (shifted_of R h k) (shifted_of-lt h k hh)

  pub sum_of-lt : (u h k : ℕ) → h < 2 ^ suc m → sum_of m R u h k < 2 ^ suc m
  unfolding sum_of
  sum_of-lt u h zero hh = pow_pos (suc m)
  sum_of-lt u h (suc k) hh =
      xor_lt (suc m) (sum_of m R u h k) (coeff_of m u k * shifted_of R h k) (sum_of-lt u h k hh)
      (digit_lt (coeff_of m u k) (shifted_of R h k) (2 ^ suc m) (coeff_of-lt m u k) (shifted_of-lt h k hh))

  pub product_of-lt : (u h : ℕ) → h < 2 ^ suc m → product_of m R u h < 2 ^ suc m
  unfolding product_of
  product_of-lt u h hh = sum_of-lt u h (suc m) hh

-- ---- times x, place by place

pub half_place : (m v k : ℕ) → k < m → coeff_of m (v / 2) (suc k) ≡ coeff_of m v k
unfolding coeff_of
half_place m v k h =
    let e : 1 + (m - suc k) ≡ m - k = omega arith in
    ap (λ (x : ℕ). x % 2) (shr-shr v 1 (m - suc k) ∙ ap (λ (x : ℕ). v / 2 ^ x) e)

pub half-place-0 : (m v : ℕ) → v < 2 ^ suc m → coeff_of m (v / 2) 0 ≡ 0
unfolding coeff_of
half-place-0 m v hv =
    ap (λ (x : ℕ). v / 2 / 2 ^ x % 2) (sub-zero m)
    ∙ ap (λ (x : ℕ). x % 2) (div-eq_of_lt (shr_lt m 1 (subst (λ (x : ℕ). v < 2 ^ x) (sym (add-one m)) hv)))

pub times_x_of-place : (m R v k : ℕ) → k < m → coeff_of m (times_x_of R v) (suc k) ≡ bit_xor (coeff_of m v k) (coeff_of m v m * coeff_of m R (suc k))
unfolding times_x_of
times_x_of-place m R v k h =
    coeff_of-xor m (v / 2) (v % 2 * R) (suc k)
    ∙ ap₂ bit_xor (half_place m v k h)
    (digit-map (λ x. coeff_of m x (suc k)) (coeff_of-zero m (suc k)) (v % 2) R (mod2-lt v)
    ∙ ap (λ (x : ℕ). x * coeff_of m R (suc k)) (sym (coeff_of-last m v)))

pub times_x_of-place-0 : (m R v : ℕ) → v < 2 ^ suc m → coeff_of m (times_x_of R v) 0 ≡ coeff_of m v m * coeff_of m R 0
unfolding times_x_of
times_x_of-place-0 m R v hv =
    coeff_of-xor m (v / 2) (v % 2 * R) 0
    ∙ ap₂ bit_xor (half-place-0 m v hv)
    (digit-map (λ x. coeff_of m x 0) (coeff_of-zero m 0) (v % 2) R (mod2-lt v)
    ∙ ap (λ (x : ℕ). x * coeff_of m R 0) (sym (coeff_of-last m v)))

-- ---- GHASH's

pub reduction-lt : reduction < 2 ^ 128
reduction-lt = lit< tt

reduction-place : (k : ℕ) → k < 128 → coefficient reduction k ≡ cond (flips k) 1 0
unfolding coeff_of
reduction-place k h =
    eqb→eq (coefficient reduction k) (cond (flips k) 1 0) (all_below-at 128 (λ k. eqb (coefficient reduction k) (cond (flips k) 1 0)) tt k h)

-- a digit a, flipped if c is 1 and the place is one that flips
flipped : (a c : ℕ) (f : Bool) → a < 2 → c < 2 → bit_xor a (c * cond f 1 0) ≡ cond (eqb c 1 && f) (1 - a) a
flipped a c f ha hc =
    digit-ind (λ c. bit_xor a (c * cond f 1 0) ≡ cond (eqb c 1 && f) (1 - a) a)
    (ap (bit_xor a) (zero-mul (cond f 1 0)) ∙ xor_zero_r a)
    (digit-ind (λ a. bit_xor a (1 * cond f 1 0) ≡ cond f (1 - a) a) (go 0 f refl) (go 1 f refl) a ha)
    c hc
  where
    go : (a : ℕ) (f : Bool) → bit_xor a 1 ≡ 1 - a → bit_xor a (1 * cond f 1 0) ≡ cond f (1 - a) a
    go a true e = e
    go a false e = xor_zero_r a

pub times-x-by-places : TimesXByPlaces
times-x-by-places v zero hv h =
    times_x_of-place-0 127 reduction v hv
    ∙ ap (λ (x : ℕ). coefficient v 127 * x) (reduction-place 0 h)
    ∙ flipped 0 (coefficient v 127) (flips 0) (lit< tt) (coeff_of-lt 127 v 127)
times-x-by-places v (suc k) hv h =
    times_x_of-place 127 reduction v k (le_of_suc-le-suc h)
    ∙ ap (λ (x : ℕ). bit_xor (coefficient v k) (coefficient v 127 * x)) (reduction-place (suc k) h)
    ∙ flipped (coefficient v k) (coefficient v 127) (flips (suc k)) (coeff_of-lt 127 v k) (coeff_of-lt 127 v 127)
