-- Several places at a time, for a product that goes by groups of coefficients. Main results: `shifted_of-overflow` (times x, j times:
-- what does not leave moves on, and what leaves comes back reduced), `product_of-group` (a group of coefficients in front, the rest
-- j places later), `product_of-step` (one step from the last group to the first), `product_of-halves` and `product_of-split`. Assumes nothing.
use mathlib.Core.Path.{◌≡◌, sym, ap, ap₂, ◌∙◌, subst}
use Prim.Native.Nat.{ℕ, zero, suc, ◌+◌, ◌-◌, ◌*◌, ◌/◌, ◌%◌, ◌^◌, ◌<◌, ◌≤◌}
use native.Mathlib.Nat.{zero-mul, one-mul, mul-one, add-mul, mul_assoc, mul_comm, add_comm, mul-div_cancel, mul-mod_left, mod-lt, lt_of_le_of_lt, div_self, sub-zero, le_of_lt, pow-suc, le-mul_of_pos_right}
use native.Mathlib.Omega.{arith}
use lib.Bits.{bit_xor, xor_shifted, xor_zero_r, shifted_even}
use lib.Pow.{pow_pos, pow-add, pow-lt, split, shl_lt, shl-shr, mod-pow-add}
use Rattle.gf128.specs.Field.{coeff_of, times_x_of, shifted_of, sum_of, product_of}
use Rattle.gf128.proofs.Halves.{shl-shl}
use Rattle.gf128.proofs.Places.{half_place, half-place-0, coeff_of-lt, coeff_of-last, digit-map, times_x_of-zero, times_x_of-xor, shifted_of-xor, shifted_of-times_x, product_of-xor-left, product_of-shifted}

-- ---- times x where nothing leaves

pub times_x_of-double : (R a : ℕ) → times_x_of R (a * 2) ≡ a
unfolding times_x_of
times_x_of-double R a =
    ap₂ (λ (x y : ℕ). bit_xor x (y * R)) (mul-div_cancel a (pow_pos 1)) (mul-mod_left a 2)
    ∙ ap (bit_xor a) (zero-mul R) ∙ xor_zero_r a

pub shifted_of-multiple : (R a k : ℕ) → shifted_of R (a * 2 ^ k) k ≡ a
unfolding shifted_of
shifted_of-multiple R a zero = mul-one a
shifted_of-multiple R a (suc k) =
    ap (λ (x : ℕ). times_x_of R (shifted_of R x k)) (ap (λ (x : ℕ). a * x) (pow-suc 2 k ∙ mul_comm (2 ^ k) 2) ∙ sym (mul_assoc a 2 (2 ^ k)))
    ∙ ap (times_x_of R) (shifted_of-multiple R (a * 2) k)
    ∙ times_x_of-double R a

-- what stays moves on, and what leaves comes back reduced
pub shifted_of-overflow : (R v j : ℕ) → shifted_of R v j ≡ bit_xor (v / 2 ^ j) (shifted_of R (v % 2 ^ j) j)
shifted_of-overflow R v j =
    ap (λ (x : ℕ). shifted_of R x j) (sym (split v j) ∙ sym (xor_shifted (v / 2 ^ j) j (v % 2 ^ j) (mod-lt v (pow_pos j))))
    ∙ shifted_of-xor R (v / 2 ^ j * 2 ^ j) (v % 2 ^ j) j
    ∙ ap (λ (x : ℕ). bit_xor x (shifted_of R (v % 2 ^ j) j)) (shifted_of-multiple R (v / 2 ^ j) j)

-- one, k places later: k + d is the last place
pub shifted_of-one : (R m k d : ℕ) → k + d ≡ m → shifted_of R (2 ^ m) k ≡ 2 ^ d
shifted_of-one R m k d e =
    ap (λ (x : ℕ). shifted_of R x k) (ap (λ (x : ℕ). 2 ^ x) (sym e) ∙ pow-add 2 k d ∙ mul_comm (2 ^ k) (2 ^ d)) ∙ shifted_of-multiple R (2 ^ d) k

-- ---- the left factor, some places later

module _ (m R : ℕ) where
  coeff-one-0 : coeff_of m (2 ^ m) 0 ≡ 1
  unfolding coeff_of
  coeff-one-0 = ap (λ (x : ℕ). 2 ^ m / 2 ^ x % 2) (sub-zero m) ∙ ap (λ (x : ℕ). x % 2) (div_self (pow_pos m))

  coeff-one : (k : ℕ) → k < m → coeff_of m (2 ^ m) (suc k) ≡ 0
  unfolding coeff_of
  coeff-one k h =
      let e : m ≡ suc k + (m - suc k) = omega arith in
      ap (λ (x : ℕ). x / 2 ^ (m - suc k) % 2) (ap (λ (x : ℕ). 2 ^ x) e ∙ pow-add 2 (suc k) (m - suc k))
      ∙ ap (λ (x : ℕ). x % 2) (shl-shr (2 ^ suc k) (m - suc k))
      ∙ ap (λ (x : ℕ). x % 2) (sym (one-mul (2 ^ suc k))) ∙ shifted_even 1 k

  sum_one : (h k : ℕ) → k ≤ m → sum_of m R (2 ^ m) h (suc k) ≡ h
  unfolding sum_of shifted_of
  sum_one h zero l = ap (λ (x : ℕ). x * h) coeff-one-0 ∙ one-mul h
  sum_one h (suc k) l =
      ap₂ bit_xor (sum_one h k (le_of_lt l)) (ap (λ (x : ℕ). x * shifted_of R h (suc k)) (coeff-one k l) ∙ zero-mul (shifted_of R h (suc k)))
      ∙ xor_zero_r h

  pub product_of-one-left : (h : ℕ) → product_of m R (2 ^ m) h ≡ h
  unfolding product_of
  product_of-one-left h = sum_one h m (omega arith)

  sum-half : (v h k : ℕ) → v < 2 ^ suc m → k ≤ m → sum_of m R (v / 2) h (suc k) ≡ times_x_of R (sum_of m R v h k)
  unfolding sum_of shifted_of
  sum-half v h zero hv l = ap (λ (x : ℕ). x * h) (half-place-0 m v hv) ∙ zero-mul h ∙ sym (times_x_of-zero R)
  sum-half v h (suc k) hv l =
      ap₂ bit_xor (sum-half v h k hv (le_of_lt l))
      (ap (λ (x : ℕ). x * times_x_of R (shifted_of R h k)) (half_place m v k l)
      ∙ sym (digit-map (times_x_of R) (times_x_of-zero R) (coeff_of m v k) (shifted_of R h k) (coeff_of-lt m v k)))
      ∙ sym (times_x_of-xor R (sum_of m R v h k) (coeff_of m v k * shifted_of R h k))

  -- the left factor one place later, where nothing leaves
  product_of-half : (a h : ℕ) → a * 2 < 2 ^ suc m → product_of m R a h ≡ times_x_of R (product_of m R (a * 2) h)
  unfolding product_of sum_of
  product_of-half a h l =
      ap (λ (x : ℕ). sum_of m R x h (suc m)) (sym (mul-div_cancel a (pow_pos 1)))
      ∙ sum-half (a * 2) h m l (omega arith)
      ∙ ap (times_x_of R)
      (sym (xor_zero_r (sum_of m R (a * 2) h m))
      ∙ ap (bit_xor (sum_of m R (a * 2) h m))
      (sym (ap (λ (x : ℕ). x * shifted_of R h m) (coeff_of-last m (a * 2) ∙ mul-mod_left a 2) ∙ zero-mul (shifted_of R h m))))

  -- j places later, where nothing leaves
  pub product_of-later : (a j h : ℕ) → a * 2 ^ j < 2 ^ suc m → product_of m R a h ≡ shifted_of R (product_of m R (a * 2 ^ j) h) j
  unfolding shifted_of
  product_of-later a zero h l = ap (λ (x : ℕ). product_of m R x h) (sym (mul-one a))
  product_of-later a (suc j) h l =
      let e : a * 2 ^ suc j ≡ a * 2 ^ j * 2 = ap (λ (x : ℕ). a * x) (pow-suc 2 j) ∙ sym (mul_assoc a (2 ^ j) 2) in
      let l2 : a * 2 ^ j * 2 < 2 ^ suc m = subst (λ (x : ℕ). x < 2 ^ suc m) e l in
      product_of-later a j h (lt_of_le_of_lt (le-mul_of_pos_right (a * 2 ^ j) (pow_pos 1)) l2)
      ∙ ap (λ (x : ℕ). shifted_of R x j) (product_of-half (a * 2 ^ j) h l2 ∙ ap (λ (x : ℕ). times_x_of R (product_of m R x h)) (sym e))
      ∙ shifted_of-times_x R (product_of m R (a * 2 ^ suc j) h) j

  -- the product with coefficient k alone: k + d is the last place
  pub product_of-place : (k d h : ℕ) → k + d ≡ m → product_of m R (2 ^ d) h ≡ shifted_of R h k
  product_of-place k d h e =
      let p : 2 ^ d * 2 ^ k ≡ 2 ^ m = mul_comm (2 ^ d) (2 ^ k) ∙ sym (pow-add 2 k d) ∙ ap (λ (x : ℕ). 2 ^ x) e in
      product_of-later (2 ^ d) k h (subst (λ (x : ℕ). x < 2 ^ suc m) (sym p) (pow-lt (omega arith)))
      ∙ ap (λ (x : ℕ). shifted_of R x k) (ap (λ (x : ℕ). product_of m R x h) p ∙ product_of-one-left h)

  -- ---- a group of coefficients in front and the rest

  front : (d a b h : ℕ) → b < 2 ^ d → product_of m R (a * 2 ^ d + b) h ≡ bit_xor (product_of m R (a * 2 ^ d) h) (product_of m R b h)
  front d a b h l = ap (λ (x : ℕ). product_of m R x h) (sym (xor_shifted a d b l)) ∙ product_of-xor-left m R (a * 2 ^ d) b h

  room : (j d b : ℕ) → j + d ≡ suc m → b < 2 ^ d → b * 2 ^ j < 2 ^ suc m
  room j d b e l = subst (λ (x : ℕ). b * 2 ^ j < 2 ^ x) (add_comm d j ∙ e) (shl_lt d j l)

  -- j coefficients a in front, the rest j places later; j + d is the number of places
  pub product_of-group : (j d a b h : ℕ) → j + d ≡ suc m → b < 2 ^ d
      → product_of m R (a * 2 ^ d + b) h ≡ bit_xor (product_of m R (a * 2 ^ d) h) (shifted_of R (product_of m R (b * 2 ^ j) h) j)
  product_of-group j d a b h e l =
      front d a b h l ∙ ap (bit_xor (product_of m R (a * 2 ^ d) h)) (product_of-later b j h (room j d b e l))

  -- the same with the later places moved into the right factor
  pub product_of-halves : (j d a b h : ℕ) → j + d ≡ suc m → b < 2 ^ d
      → product_of m R (a * 2 ^ d + b) h ≡ bit_xor (product_of m R (a * 2 ^ d) h) (product_of m R (b * 2 ^ j) (shifted_of R h j))
  product_of-halves j d a b h e l =
      product_of-group j d a b h e l ∙ ap (bit_xor (product_of m R (a * 2 ^ d) h)) (sym (product_of-shifted m R (b * 2 ^ j) h j))

  -- j coefficients p and the next j coefficients q, with d places after them
  pub product_of-split : (j d p q h : ℕ) → j + (j + d) ≡ suc m → q < 2 ^ j
      → product_of m R ((p * 2 ^ j + q) * 2 ^ d) h
      ≡ bit_xor (product_of m R (p * 2 ^ (j + d)) h) (product_of m R (q * 2 ^ (j + d)) (shifted_of R h j))
  product_of-split j d p q h e l =
      ap (λ (x : ℕ). product_of m R x h)
      (add-mul (p * 2 ^ j) q (2 ^ d)
      ∙ ap (λ (x : ℕ). x + q * 2 ^ d) (sym (shl-shl p j d)))
      ∙ product_of-halves j (j + d) p (q * 2 ^ d) h e (shl_lt j d l)
      ∙ ap (λ (x : ℕ). bit_xor (product_of m R (p * 2 ^ (j + d)) h) (product_of m R x (shifted_of R h j)))
      (sym (shl-shl q d j) ∙ ap (λ (x : ℕ). q * 2 ^ x) (add_comm d j))

  -- from the last group to the first: with the k low digits of u done, the next j digits; j + k + d is the number of places
  pub product_of-step : (j k d u h : ℕ) → j + (k + d) ≡ suc m
      → product_of m R (u % 2 ^ (j + k) * 2 ^ d) h
      ≡ bit_xor (product_of m R (u / 2 ^ k % 2 ^ j * 2 ^ (k + d)) h) (shifted_of R (product_of m R (u % 2 ^ k * 2 ^ (d + j)) h) j)
  product_of-step j k d u h e =
      ap (λ (x : ℕ). product_of m R x h)
      (ap (λ (x : ℕ). x * 2 ^ d) (mod-pow-add u j k) ∙ add-mul (u / 2 ^ k % 2 ^ j * 2 ^ k) (u % 2 ^ k) (2 ^ d)
      ∙ ap (λ (x : ℕ). x + u % 2 ^ k * 2 ^ d) (sym (shl-shl (u / 2 ^ k % 2 ^ j) k d)))
      ∙ product_of-group j (k + d) (u / 2 ^ k % 2 ^ j) (u % 2 ^ k * 2 ^ d) h e (shl_lt k d (mod-lt u (pow_pos k)))
      ∙ ap (λ (x : ℕ). bit_xor (product_of m R (u / 2 ^ k % 2 ^ j * 2 ^ (k + d)) h) (shifted_of R (product_of m R x h) j))
      (sym (shl-shl (u % 2 ^ k) d j))

  -- the digits a * 2 ^ j + r, d places before the last
  pub product_of-digits : (j d a r h : ℕ) → r < 2 ^ j
      → product_of m R ((a * 2 ^ j + r) * 2 ^ d) h ≡ bit_xor (product_of m R (a * 2 ^ j * 2 ^ d) h) (product_of m R (r * 2 ^ d) h)
  product_of-digits j d a r h l =
      let e = sym (shl-shl a j d) in
      ap (λ (x : ℕ). product_of m R x h) (add-mul (a * 2 ^ j) r (2 ^ d) ∙ ap (λ (x : ℕ). x + r * 2 ^ d) e)
      ∙ front (j + d) a (r * 2 ^ d) h (shl_lt j d l)
      ∙ ap (λ (x : ℕ). bit_xor (product_of m R x h) (product_of m R (r * 2 ^ d) h)) (sym e)
