-- One turn of the bit-by-bit product: Z and V after k + 1 places from those after k.
-- Assumes nothing.
use Rattle.std.proofs.Common.{◌≡◌, ℕ, ◌+◌, ◌*◌, ◌/◌, ◌%◌, ◌-◌, ◌^◌, ◌<◌, ap, ◌∙◌, add-one, arith, mod-lt, zero-lt-suc, one-mul, zero-mul, bit_xor}
use lib.Bits.{xor_zero_r}
use Rattle.gf128.specs.Field.{coeff_of, times_x_of, shifted_of, sum_of}

module _ (m R u h k : ℕ) where
  pub next-shifted : shifted_of R h (k + 1) ≡ times_x_of R (shifted_of R h k)
  unfolding shifted_of
  next-shifted = ap (shifted_of R h) (add-one k)

  next-sum : sum_of m R u h (k + 1) ≡ bit_xor (sum_of m R u h k) (coeff_of m u k * shifted_of R h k)
  unfolding sum_of
  next-sum = ap (sum_of m R u h) (add-one k)

  -- coefficient k is 1: Z := Z xor V
  pub added : coeff_of m u k ≡ 1 → sum_of m R u h (k + 1) ≡ bit_xor (sum_of m R u h k) (shifted_of R h k)
  added e = next-sum ∙ ap (λ (x : ℕ). bit_xor (sum_of m R u h k) (x * shifted_of R h k)) e ∙ ap (bit_xor (sum_of m R u h k)) (one-mul (shifted_of R h k))

  is_zero : (coeff_of m u k ≡ 1 → ⊥) → coeff_of m u k ≡ 0
  unfolding coeff_of
  is_zero n = let b : u / 2 ^ (m - k) % 2 < 2 = mod-lt (u / 2 ^ (m - k)) (zero-lt-suc 1) in omega arith

  -- it is not: Z stays
  pub kept : (coeff_of m u k ≡ 1 → ⊥) → sum_of m R u h (k + 1) ≡ sum_of m R u h k
  kept n =
      next-sum ∙ ap (λ (x : ℕ). bit_xor (sum_of m R u h k) (x * shifted_of R h k)) (is_zero n)
      ∙ ap (bit_xor (sum_of m R u h k)) (zero-mul (shifted_of R h k)) ∙ xor_zero_r (sum_of m R u h k)
