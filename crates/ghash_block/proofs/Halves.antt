-- A block as two halves: how times x and a coefficient go by the halves.
-- Main results: `halves-shifted`, `halves-times_x`, `high-coefficient`, `low-coefficient`.
-- Assumes nothing.
use mathlib.Core.Path.{◌≡◌, sym, ap, ap₂, ◌∙◌}
use Prim.Native.Nat.{ℕ, suc, ◌+◌, ◌-◌, ◌*◌, ◌/◌, ◌%◌, ◌^◌, ◌≤◌, ◌<◌}
use native.Mathlib.Nat.{mul_assoc, mod-lt, mod-eq_of_lt, div-eq_of_lt, add-sub_assoc}
use native.Mathlib.Numerals.{add-one}
use native.Mathlib.Omega.{arith}
use lib.Pow.{pow_pos, shr-shr, high}
use lib.Bits.{bit_xor}
use Rattle.gf128.specs.Field.{coeff_of, times_x_of, shifted_of}
use Rattle.gf128.proofs.Halves.{high-xor, halves-moved, halves-low, moved-lt, field-in-low}
use Rattle.gf128.proofs.Nibbles.{shifted_of-overflow}

-- times x, j times, where e is the high half of the reduction of what leaves, and its low half is zero
pub halves-shifted : (i j a r R e : ℕ) → r < 2 ^ (i + j) → e * 2 ^ (i + j) ≡ shifted_of R (r % 2 ^ j) j
    → bit_xor (a / 2 ^ j) e * 2 ^ (i + j) + (r / 2 ^ j + a % 2 ^ j * 2 ^ i) ≡ shifted_of R (a * 2 ^ (i + j) + r) j
halves-shifted i j a r R e h rule =
    high-xor (i + j) (a / 2 ^ j) e (r / 2 ^ j + a % 2 ^ j * 2 ^ i) (moved-lt i j a r h)
    ∙ ap₂ bit_xor (sym (halves-moved i j a r)) (rule ∙ ap (λ (x : ℕ). shifted_of R x j) (sym (halves-low i j a r)))
    ∙ sym (shifted_of-overflow R (a * 2 ^ (i + j) + r) j)

-- once: R is the high half of the reduction, and its low half is zero
pub halves-times_x : (k R a r : ℕ) → r < 2 ^ (k + 1)
    → bit_xor (a / 2) (r % 2 * R) * 2 ^ (k + 1) + (r / 2 + a % 2 * 2 ^ k) ≡ times_x_of (R * 2 ^ (k + 1)) (a * 2 ^ (k + 1) + r)
unfolding shifted_of times_x_of
halves-times_x k R a r h =
    halves-shifted k 1 a r (R * 2 ^ (k + 1)) (r % 2 * R) h
    (mul_assoc (r % 2) R (2 ^ (k + 1))
    ∙ ap₂ (λ (x y : ℕ). bit_xor x (y * (R * 2 ^ (k + 1)))) (sym (div-eq_of_lt (mod-lt r (pow_pos 1)))) (sym (mod-eq_of_lt (mod-lt r (pow_pos 1)))))

high_digit : (k j a r : ℕ) → r < 2 ^ k → (a * 2 ^ k + r) / 2 ^ (k + j) ≡ a / 2 ^ j
high_digit k j a r h = sym (shr-shr (a * 2 ^ k + r) k j) ∙ ap (λ (x : ℕ). x / 2 ^ j) (high a k h)

low_digit : (d j a r : ℕ) → (a * 2 ^ (suc d + j) + r) / 2 ^ j % 2 ≡ r / 2 ^ j % 2
low_digit d j a r = field-in-low a r (suc d + j) j 1 d (ap (λ (x : ℕ). x + j) (add-one d))

-- p is the last place of the high half
pub high-coefficient : (p k a r : ℕ) → k ≤ p → r < 2 ^ suc p
    → a / 2 ^ (p - k) % 2 ≡ coeff_of (suc p + p) (a * 2 ^ suc p + r) k
unfolding coeff_of
high-coefficient p k a r l h =
    ap (λ (x : ℕ). x % 2)
    (sym (high_digit (suc p) (p - k) a r h) ∙ ap (λ (x : ℕ). (a * 2 ^ suc p + r) / 2 ^ x) (sym (add-sub_assoc l (suc p))))

pub low-coefficient : (p k a r : ℕ) → p < k → k ≤ suc p + p
    → r / 2 ^ (suc p + p - k) % 2 ≡ coeff_of (suc p + p) (a * 2 ^ suc p + r) k
unfolding coeff_of
low-coefficient p k a r g l =
    let j = suc p + p - k in
    let e : suc (p - j) + j ≡ suc p = omega arith in
    sym (low_digit (p - j) j a r) ∙ ap (λ (x : ℕ). (a * 2 ^ x + r) / 2 ^ j % 2) e
