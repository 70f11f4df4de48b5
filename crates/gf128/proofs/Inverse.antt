-- The inverse, over any last place m and constant R for which two facts hold: n squarings are the identity (n at least 1), and only
-- zero and one are their own squares. Main results: `inverse-product` (the inverse times h is one) and `no-zero-divisors`. Assumes nothing.
use mathlib.Core.Path.{◌≡◌, sym, ap, ◌∙◌}
use mathlib.Core.Logic.{◌≢◌, ◌⊎◌, ⊎_elim}
use Prim.Native.Nat.{ℕ, zero, suc, ◌^◌, ◌<◌}
use native.Mathlib.Nat.{le_refl}
use lib.Pow.{pow-lt}
use Rattle.gf128.specs.Field.{product_of}
use Rattle.gf128.proofs.Places.{product_of-lt, product_of-zero-right}
use Rattle.gf128.proofs.Nibbles.{product_of-one-left}
use Rattle.gf128.proofs.Ring.{product_of-one-right, product_of-comm, product_of-assoc}
use Rattle.gf128.proofs.Squaring.{square_of, squares_of, square-lt, square-product}

-- h to the power 2 ^ k - 1: one, then again and again the square times h
unfoldable pub powers_of : ℕ → ℕ → ℕ → ℕ → ℕ
powers_of m R h zero = 2 ^ m
powers_of m R h (suc k) = product_of m R h (square_of m R (powers_of m R h k))

-- h to the power 2 ^ suc n - 2
unfoldable pub inverse_by : ℕ → ℕ → ℕ → ℕ → ℕ
inverse_by m R n h = square_of m R (powers_of m R h n)

module _ (m R : ℕ) (hR : R < 2 ^ suc m) where
  one-lt : 2 ^ m < 2 ^ suc m
  one-lt = pow-lt (le_refl (suc m))

  powers-lt : (h k : ℕ) → h < 2 ^ suc m → powers_of m R h k < 2 ^ suc m
  unfolding powers_of
  powers-lt h zero l = one-lt
  powers-lt h (suc k) l = product_of-lt m R hR h (square_of m R (powers_of m R h k)) (square-lt m R hR (powers_of m R h k) (powers-lt h k l))

  powers-squares : (h k : ℕ) → h < 2 ^ suc m → product_of m R h (powers_of m R h k) ≡ squares_of m R k h
  unfolding powers_of squares_of square_of
  powers-squares h zero l = product_of-one-right m R hR h l
  powers-squares h (suc k) l =
      sym (product_of-assoc m R hR h h (square_of m R (powers_of m R h k)) l (square-lt m R hR (powers_of m R h k) (powers-lt h k l)))
      ∙ sym (square-product m R hR h (powers_of m R h k) l (powers-lt h k l))
      ∙ ap (square_of m R) (powers-squares h k l)

  pub inverse-lt : (n h : ℕ) → h < 2 ^ suc m → inverse_by m R n h < 2 ^ suc m
  unfolding inverse_by
  inverse-lt n h l = square-lt m R hR (powers_of m R h n) (powers-lt h n l)

  module _ (n : ℕ) (back : (u : ℕ) → u < 2 ^ suc m → squares_of m R (suc n) u ≡ u)
      (own : (e : ℕ) → e < 2 ^ suc m → square_of m R e ≡ e → (e ≡ 0) ⊎ (e ≡ 2 ^ m)) where
    pub inverse-product : (h : ℕ) → h < 2 ^ suc m → h ≢ 0 → product_of m R (inverse_by m R n h) h ≡ 2 ^ m
    unfolding powers_of inverse_by square_of
    inverse-product h l h0 =
        ⊎_elim (λ z. absurd (h0 (sym h-e ∙ ap (product_of m R h) z ∙ product_of-zero-right m R h)))
        (λ z. product_of-comm m R hR i h hi l ∙ z)
        (own e he (sym (product_of-assoc m R hR e h i l hi) ∙ ap (λ (x : ℕ). product_of m R x i) (product_of-comm m R hR e h he l ∙ h-e)))
      where
        i : ℕ
        i = inverse_by m R n h

        e : ℕ
        e = powers_of m R h (suc n)

        hi : i < 2 ^ suc m
        hi = inverse-lt n h l

        he : e < 2 ^ suc m
        he = powers-lt h (suc n) l

        h-e : product_of m R h e ≡ h
        h-e = powers-squares h (suc n) l ∙ back h l

    pub no-zero-divisors : (a b : ℕ) → a < 2 ^ suc m → b < 2 ^ suc m → product_of m R a b ≡ 0 → a ≢ 0 → b ≡ 0
    no-zero-divisors a b ha hb e a0 =
        sym (product_of-one-left m R b)
        ∙ ap (λ (x : ℕ). product_of m R x b) (sym (inverse-product a ha a0))
        ∙ product_of-assoc m R hR (inverse_by m R n a) a b ha hb
        ∙ ap (product_of m R (inverse_by m R n a)) e
        ∙ product_of-zero-right m R (inverse_by m R n a)
