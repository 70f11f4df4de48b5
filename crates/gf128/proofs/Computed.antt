-- Products and hashes that compute fast: the shifted key is carried along, and the number that may be zero stands first in each xor,
-- since xor computes along its first. Main results: `quick-product`, `quick-ghash`. Assumes nothing.
use mathlib.Core.Path.{◌≡◌, refl, sym, ap, ap₂, ◌∙◌}
use mathlib.Core.List.{List, [], ◌∷◌}
use Prim.Native.Nat.{ℕ, zero, suc, ◌+◌, ◌-◌, ◌*◌, ◌/◌, ◌%◌, ◌^◌}
use native.Mathlib.Nat.{add-zero, zero-add}
use native.Mathlib.Omega.{arith}
use lib.Bits.{bit_xor, xor_comm}
use Rattle.gf128.specs.Field.{coeff_of, times_x_of, shifted_of, sum_of, product_of, product, reduction}
use Rattle.gf128.specs.Hash.{next, over, message_of, ghash}

-- times x
unfoldable pub quick_x_of : ℕ → ℕ → ℕ
quick_x_of R v = bit_xor (v % 2 * R) (v / 2)

pub quick_x-times_x : (R v : ℕ) → quick_x_of R v ≡ times_x_of R v
unfolding quick_x_of times_x_of
quick_x-times_x R v = xor_comm (v % 2 * R) (v / 2)

-- the loop's last d steps, from V and Z on
unfoldable pub quick_steps : ℕ → ℕ → ℕ → ℕ → ℕ → ℕ
quick_steps R u zero v z = z
quick_steps R u (suc d) v z = quick_steps R u d (quick_x_of R v) (bit_xor (u / 2 ^ d % 2 * v) z)

module _ (m R u h : ℕ) where
  steps-left : (d k : ℕ) → k + d ≡ suc m → quick_steps R u d (shifted_of R h k) (sum_of m R u h k) ≡ product_of m R u h
  unfolding quick_steps product_of sum_of shifted_of coeff_of
  steps-left zero k e = ap (sum_of m R u h) (sym (add-zero k) ∙ e)
  steps-left (suc d) k e =
      let p : d ≡ m - k = omega arith in
      ap₂ (quick_steps R u d)
      (quick_x-times_x R (shifted_of R h k))
      (xor_comm (u / 2 ^ d % 2 * shifted_of R h k) (sum_of m R u h k)
      ∙ ap (λ (x : ℕ). bit_xor (sum_of m R u h k) (u / 2 ^ x % 2 * shifted_of R h k)) p)
      ∙ steps-left d (suc k) (omega arith)

  pub quick-product_of : quick_steps R u (suc m) h 0 ≡ product_of m R u h
  unfolding sum_of shifted_of
  quick-product_of = steps-left (suc m) 0 (zero-add (suc m))

-- GHASH's
unfoldable pub quick_product : ℕ → ℕ → ℕ
quick_product u h = quick_steps reduction u 128 h 0

pub quick-product : (u h : ℕ) → quick_product u h ≡ product u h
unfolding quick_product
quick-product u h = quick-product_of 127 reduction u h

unfoldable pub quick_over : ℕ → ℕ → List ℕ → ℕ
quick_over h y [] = y
quick_over h y (x ∷ xs) = quick_over h (quick_product (bit_xor y x) h) xs

quick-over : (h y : ℕ) (xs : List ℕ) → quick_over h y xs ≡ over h y xs
unfolding quick_over over next
quick-over h y [] = refl
quick-over h y (x ∷ xs) = ap (λ (v : ℕ). quick_over h v xs) (quick-product (bit_xor y x) h) ∙ quick-over h (product (bit_xor y x) h) xs

unfoldable pub quick_ghash : ℕ → List ℕ → List ℕ → ℕ
quick_ghash h a c = quick_over h 0 (message_of a c)

pub quick-ghash : (h : ℕ) (a c : List ℕ) → quick_ghash h a c ≡ ghash h a c
unfolding quick_ghash ghash
quick-ghash h a c = quick-over h 0 (message_of a c)
