-- Blocks with xor and the product are a commutative ring, over any last place m and constant R. Main results: `linear-product` (a map
-- that is additive and goes through times x is a product), and from it `product_of-one-right`, `product_of-comm`, `product_of-assoc`.
-- Assumes nothing.
use mathlib.Core.Path.{◌≡◌, refl, sym, ap, ap₂, ◌∙◌, subst}
use Prim.Native.Nat.{ℕ, zero, suc, ◌+◌, ◌-◌, ◌*◌, ◌/◌, ◌%◌, ◌^◌, ◌<◌, ◌≤◌}
use native.Mathlib.Nat.{mod-lt, lt_of_lt_of_le, lt_of_le_of_lt, le_of_lt, div-mul-le_self, le_of_suc-le-suc, zero-mul, one-mul, le_refl}
use native.Mathlib.Numerals.{one-add}
use native.Mathlib.Omega.{arith}
use lib.Arith.{lt-one}
use lib.Bits.{bit_xor, xor_shifted, xor_self}
use lib.Pow.{pow_pos, pow_mono, pow-lt, split, shr_lt}
use Rattle.gf128.specs.Field.{times_x_of, shifted_of, product_of}
use Rattle.gf128.proofs.Places.{digit-ind, product_of-xor-left, product_of-xor-right, product_of-times_x, product_of-lt, shifted_of-lt}
use Rattle.gf128.proofs.Nibbles.{shifted_of-one, product_of-place}

-- two maps that are additive on blocks and agree on every single coefficient agree
module _ (m : ℕ) (f g : ℕ → ℕ)
    (fx : (a b : ℕ) → a < 2 ^ suc m → b < 2 ^ suc m → f (bit_xor a b) ≡ bit_xor (f a) (f b))
    (gx : (a b : ℕ) → a < 2 ^ suc m → b < 2 ^ suc m → g (bit_xor a b) ≡ bit_xor (g a) (g b))
    (same : (d : ℕ) → d ≤ m → f (2 ^ d) ≡ g (2 ^ d)) where
  same-zero : f 0 ≡ g 0
  same-zero = fx 0 0 (pow_pos (suc m)) (pow_pos (suc m)) ∙ xor_self (f 0) ∙ sym (gx 0 0 (pow_pos (suc m)) (pow_pos (suc m)) ∙ xor_self (g 0))

  same-below : (d u : ℕ) → d ≤ suc m → u < 2 ^ d → f u ≡ g u
  same-below zero u l h = ap f (lt-one h) ∙ same-zero ∙ sym (ap g (lt-one h))
  same-below (suc d) u l h =
      ap f e ∙ fx a b ha hb ∙ ap₂ bit_xor top (same-below d b (le_of_lt l) hd) ∙ sym (gx a b ha hb) ∙ sym (ap g e)
    where
      a : ℕ
      a = u / 2 ^ d * 2 ^ d

      b : ℕ
      b = u % 2 ^ d

      hd : b < 2 ^ d
      hd = mod-lt u (pow_pos d)

      e : u ≡ bit_xor a b
      e = sym (split u d) ∙ sym (xor_shifted (u / 2 ^ d) d (u % 2 ^ d) hd)

      ha : a < 2 ^ suc m
      ha = lt_of_le_of_lt (div-mul-le_self u (2 ^ d)) (lt_of_lt_of_le h (pow_mono l))

      hb : b < 2 ^ suc m
      hb = lt_of_lt_of_le hd (pow_mono (le_of_lt l))

      top : f a ≡ g a
      top =
          digit-ind (λ c. f (c * 2 ^ d) ≡ g (c * 2 ^ d)) (ap f (zero-mul (2 ^ d)) ∙ same-zero ∙ sym (ap g (zero-mul (2 ^ d))))
          (ap f (one-mul (2 ^ d)) ∙ same d (le_of_suc-le-suc l) ∙ sym (ap g (one-mul (2 ^ d))))
          (u / 2 ^ d) (shr_lt 1 d (subst (λ (x : ℕ). u < 2 ^ x) (sym (one-add d)) h))

  pub additive-same : (u : ℕ) → u < 2 ^ suc m → f u ≡ g u
  additive-same u h = same-below (suc m) u (le_refl (suc m)) h

-- a map that is additive on blocks and goes through times x there
pub record Linear (m R : ℕ) (f : ℕ → ℕ) : Type 0 where
  pub xor : (a b : ℕ) → a < 2 ^ suc m → b < 2 ^ suc m → f (bit_xor a b) ≡ bit_xor (f a) (f b)
  pub times_x : (v : ℕ) → v < 2 ^ suc m → f (times_x_of R v) ≡ times_x_of R (f v)

module _ (m R : ℕ) (hR : R < 2 ^ suc m) where
  one-lt : 2 ^ m < 2 ^ suc m
  one-lt = pow-lt (le_refl (suc m))

  linear-shifted : (f : ℕ → ℕ) → Linear m R f → (h k : ℕ) → h < 2 ^ suc m → f (shifted_of R h k) ≡ shifted_of R (f h) k
  unfolding shifted_of
  linear-shifted f lin h zero l = refl
  linear-shifted f lin h (suc k) l = lin.times_x (shifted_of R h k) (shifted_of-lt m R hR h k l) ∙ ap (times_x_of R) (linear-shifted f lin h k l)

  pub linear-product : (f : ℕ → ℕ) → Linear m R f → (u : ℕ) → u < 2 ^ suc m → f u ≡ product_of m R u (f (2 ^ m))
  linear-product f lin =
      additive-same m f (λ u. product_of m R u (f (2 ^ m))) lin.xor (λ a b ha hb. product_of-xor-left m R a b (f (2 ^ m)))
      (λ d l.
      let e : m - d + d ≡ m = omega arith in
      ap f (sym (shifted_of-one R m (m - d) d e)) ∙ linear-shifted f lin (2 ^ m) (m - d) one-lt ∙ sym (product_of-place m R (m - d) d (f (2 ^ m)) e))

  pub product_of-one-right : (u : ℕ) → u < 2 ^ suc m → product_of m R u (2 ^ m) ≡ u
  product_of-one-right u h = sym (linear-product (λ v. v) (record { xor = λ a b ha hb. refl; times_x = λ v hv. refl }) u h)

  pub product_of-comm : (a b : ℕ) → a < 2 ^ suc m → b < 2 ^ suc m → product_of m R a b ≡ product_of m R b a
  product_of-comm a b ha hb =
      linear-product (product_of m R a) (record { xor = λ v w hv hw. product_of-xor-right m R a v w; times_x = λ v hv. product_of-times_x m R a v }) b hb
      ∙ ap (product_of m R b) (product_of-one-right a ha)

  pub product_of-assoc : (a b c : ℕ) → b < 2 ^ suc m → c < 2 ^ suc m → product_of m R (product_of m R a b) c ≡ product_of m R a (product_of m R b c)
  product_of-assoc a b c hb hc =
      product_of-comm (product_of m R a b) c (product_of-lt m R hR a b hb) hc
      ∙ ap (λ (x : ℕ). product_of m R c (product_of m R a x)) (sym (product_of-one-right b hb))
      ∙ sym (linear-product (λ v. product_of m R a (product_of m R b v))
      (record {
        xor = λ v w hv hw. ap (product_of m R a) (product_of-xor-right m R b v w) ∙ product_of-xor-right m R a (product_of m R b v) (product_of m R b w);
        times_x = λ v hv. ap (product_of m R a) (product_of-times_x m R b v) ∙ product_of-times_x m R a (product_of m R b v);
      }) c hc)
