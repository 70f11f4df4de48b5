-- Squaring is additive and multiplicative on blocks, over any last place m and constant R. Main results: `square-xor`, `square-product`,
-- and `squares-identity`: if n squarings bring x back to x, they bring every block back. Assumes nothing.
use mathlib.Core.Path.{◌≡◌, refl, sym, ap, ap₂, ◌∙◌}
use Prim.Native.Nat.{ℕ, zero, suc, ◌^◌, ◌<◌}
use native.Mathlib.Nat.{le_refl}
use lib.Bits.{bit_xor}
use lib.Pow.{pow-lt}
use Rattle.gf128.specs.Field.{times_x_of, product_of}
use Rattle.gf128.proofs.Xor.{xor_assoc, xor-cancel}
use Rattle.gf128.proofs.Places.{product_of-xor-left, product_of-xor-right, product_of-times_x, product_of-lt, times_x_of-lt}
use Rattle.gf128.proofs.Nibbles.{product_of-one-left}
use Rattle.gf128.proofs.Ring.{linear-product, product_of-one-right, product_of-comm, product_of-assoc}

unfoldable pub square_of : ℕ → ℕ → ℕ → ℕ
square_of m R u = product_of m R u u

-- n squarings
unfoldable pub squares_of : ℕ → ℕ → ℕ → ℕ → ℕ
squares_of m R zero u = u
squares_of m R (suc n) u = square_of m R (squares_of m R n u)

-- the middle terms of a square cancel
cancel-middle : (a b c : ℕ) → bit_xor (bit_xor a b) (bit_xor b c) ≡ bit_xor a c
cancel-middle a b c = xor_assoc a b (bit_xor b c) ∙ ap (bit_xor a) (xor-cancel b c)

module _ (m R : ℕ) (hR : R < 2 ^ suc m) where
  pub square-lt : (u : ℕ) → u < 2 ^ suc m → square_of m R u < 2 ^ suc m
  unfolding square_of
  square-lt u h = product_of-lt m R hR u u h

  pub square-xor : (a b : ℕ) → a < 2 ^ suc m → b < 2 ^ suc m → square_of m R (bit_xor a b) ≡ bit_xor (square_of m R a) (square_of m R b)
  unfolding square_of
  square-xor a b ha hb =
      product_of-xor-left m R a b (bit_xor a b)
      ∙ ap₂ bit_xor (product_of-xor-right m R a a b) (product_of-xor-right m R b a b ∙ ap (λ (x : ℕ). bit_xor x (product_of m R b b)) (product_of-comm m R hR b a hb ha))
      ∙ cancel-middle (product_of m R a a) (product_of m R a b) (product_of m R b b)

  pub square-product : (a b : ℕ) → a < 2 ^ suc m → b < 2 ^ suc m → square_of m R (product_of m R a b) ≡ product_of m R (square_of m R a) (square_of m R b)
  unfolding square_of
  square-product a b ha hb =
      product_of-assoc m R hR a b (product_of m R a b) hb (product_of-lt m R hR a b hb)
      ∙ ap (product_of m R a)
      (sym (product_of-assoc m R hR b a b ha hb) ∙ ap (λ (x : ℕ). product_of m R x b) (product_of-comm m R hR b a hb ha) ∙ product_of-assoc m R hR a b b hb hb)
      ∙ sym (product_of-assoc m R hR a a (product_of m R b b) ha (product_of-lt m R hR b b hb))

  pub square-one : square_of m R (2 ^ m) ≡ 2 ^ m
  unfolding square_of
  square-one = product_of-one-left m R (2 ^ m)

  -- ---- n squarings

  pub squares-lt : (n u : ℕ) → u < 2 ^ suc m → squares_of m R n u < 2 ^ suc m
  unfolding squares_of
  squares-lt zero u h = h
  squares-lt (suc n) u h = square-lt (squares_of m R n u) (squares-lt n u h)

  squares-xor : (n a b : ℕ) → a < 2 ^ suc m → b < 2 ^ suc m → squares_of m R n (bit_xor a b) ≡ bit_xor (squares_of m R n a) (squares_of m R n b)
  unfolding squares_of
  squares-xor zero a b ha hb = refl
  squares-xor (suc n) a b ha hb =
      ap (square_of m R) (squares-xor n a b ha hb) ∙ square-xor (squares_of m R n a) (squares_of m R n b) (squares-lt n a ha) (squares-lt n b hb)

  squares-product : (n a b : ℕ) → a < 2 ^ suc m → b < 2 ^ suc m
      → squares_of m R n (product_of m R a b) ≡ product_of m R (squares_of m R n a) (squares_of m R n b)
  unfolding squares_of
  squares-product zero a b ha hb = refl
  squares-product (suc n) a b ha hb =
      ap (square_of m R) (squares-product n a b ha hb) ∙ square-product (squares_of m R n a) (squares_of m R n b) (squares-lt n a ha) (squares-lt n b hb)

  squares-one : (n : ℕ) → squares_of m R n (2 ^ m) ≡ 2 ^ m
  unfolding squares_of
  squares-one zero = refl
  squares-one (suc n) = ap (square_of m R) (squares-one n) ∙ square-one

  one-lt : 2 ^ m < 2 ^ suc m
  one-lt = pow-lt (le_refl (suc m))

  x_lt : times_x_of R (2 ^ m) < 2 ^ suc m
  x_lt = times_x_of-lt m R hR (2 ^ m) one-lt

  -- times x is the product with x
  x-product : (v : ℕ) → v < 2 ^ suc m → product_of m R (times_x_of R (2 ^ m)) v ≡ times_x_of R v
  x-product v hv =
      product_of-comm m R hR (times_x_of R (2 ^ m)) v x_lt hv ∙ product_of-times_x m R v (2 ^ m) ∙ ap (times_x_of R) (product_of-one-right m R hR v hv)

  pub squares-identity : (n : ℕ) → squares_of m R n (times_x_of R (2 ^ m)) ≡ times_x_of R (2 ^ m) → (u : ℕ) → u < 2 ^ suc m → squares_of m R n u ≡ u
  squares-identity n e u h =
      linear-product m R hR (squares_of m R n)
      (record {
        xor = squares-xor n;
        times_x = λ v hv.
            ap (squares_of m R n) (sym (x-product v hv)) ∙ squares-product n (times_x_of R (2 ^ m)) v x_lt hv
            ∙ ap (λ (x : ℕ). product_of m R x (squares_of m R n v)) e ∙ x-product (squares_of m R n v) (squares-lt n v hv);
      })
      u h
      ∙ ap (product_of m R u) (squares-one n)
      ∙ product_of-one-right m R hR u h
