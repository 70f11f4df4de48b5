-- Laws of xor on numbers that the kit lacks. Main results: `xor_assoc`, `xor-cancel`, `xor-zero-eq`, `xor-swap4`, `xor-shl`.
-- Assumes nothing.
use mathlib.Core.Path.{◌≡◌, refl, sym, ap, ap₂, ◌∙◌}
use Prim.Native.Nat.{ℕ, zero, suc, ◌+◌, ◌*◌, ◌/◌, ◌%◌, ◌^◌, ◌<◌}
use native.Mathlib.Nat.{add-zero, mod-lt, zero-lt-suc, le_of_suc-le-suc, not-suc-le-zero}
use lib.Arith.{bin_ind}
use lib.Pow.{pow_pos}
use lib.Bits.{bit_xor, xor_block, xor_shr, xor_mod, xor_comm, xor_self, xor_zero_r}

-- the digits of a xor
pub xor-half : (a b : ℕ) → bit_xor a b / 2 ≡ bit_xor (a / 2) (b / 2)
xor-half a b = xor_shr a b 1

pub xor-odd : (a b : ℕ) → bit_xor a b % 2 ≡ bit_xor (a % 2) (b % 2)
xor-odd a b = xor_mod a b 1

digit_assoc : (x y z : ℕ) → x < 2 → y < 2 → z < 2 → bit_xor (bit_xor x y) z ≡ bit_xor x (bit_xor y z)
digit_assoc zero y z hx hy hz = refl
digit_assoc (suc zero) zero z hx hy hz = refl
digit_assoc (suc zero) (suc zero) zero hx hy hz = refl
digit_assoc (suc zero) (suc zero) (suc zero) hx hy hz = refl
digit_assoc (suc zero) (suc zero) (suc (suc z)) hx hy hz = absurd (not-suc-le-zero (le_of_suc-le-suc (le_of_suc-le-suc hz)))
digit_assoc (suc zero) (suc (suc y)) z hx hy hz = absurd (not-suc-le-zero (le_of_suc-le-suc (le_of_suc-le-suc hy)))
digit_assoc (suc (suc x)) y z hx hy hz = absurd (not-suc-le-zero (le_of_suc-le-suc (le_of_suc-le-suc hx)))

-- a number is its half and its digit
split2 : (n : ℕ) → n ≡ n / 2 * 2 + n % 2
split2 n = sym (native.Mathlib.Nat.div-add-mod' n 2)

pub xor_assoc : (a b c : ℕ) → bit_xor (bit_xor a b) c ≡ bit_xor a (bit_xor b c)
xor_assoc =
    bin_ind (λ (a : ℕ). (b c : ℕ) → bit_xor (bit_xor a b) c ≡ bit_xor a (bit_xor b c)) (λ b c. refl)
    (λ a ih b c.
    split2 (bit_xor (bit_xor a b) c)
    ∙ ap₂ (λ (x y : ℕ). x * 2 + y)
    (xor-half (bit_xor a b) c ∙ ap (λ (x : ℕ). bit_xor x (c / 2)) (xor-half a b) ∙ ih (b / 2) (c / 2)
    ∙ sym (xor-half a (bit_xor b c) ∙ ap (bit_xor (a / 2)) (xor-half b c)))
    (xor-odd (bit_xor a b) c ∙ ap (λ (x : ℕ). bit_xor x (c % 2)) (xor-odd a b)
    ∙ digit_assoc (a % 2) (b % 2) (c % 2) (mod-lt a (zero-lt-suc 1)) (mod-lt b (zero-lt-suc 1)) (mod-lt c (zero-lt-suc 1))
    ∙ sym (xor-odd a (bit_xor b c) ∙ ap (bit_xor (a % 2)) (xor-odd b c)))
    ∙ sym (split2 (bit_xor a (bit_xor b c))))

pub xor-cancel : (a b : ℕ) → bit_xor a (bit_xor a b) ≡ b
xor-cancel a b = sym (xor_assoc a a b) ∙ ap (λ (x : ℕ). bit_xor x b) (xor_self a)

-- two numbers whose xor is zero are equal
pub xor-zero-eq : (a b : ℕ) → bit_xor a b ≡ 0 → a ≡ b
xor-zero-eq a b e = sym (xor_zero_r a) ∙ ap (bit_xor a) (sym e) ∙ xor-cancel a b

pub xor-cancel-right : (a b : ℕ) → bit_xor (bit_xor a b) b ≡ a
xor-cancel-right a b = xor_assoc a b b ∙ ap (bit_xor a) (xor_self b) ∙ xor_zero_r a

pub xor-swap4 : (a b c d : ℕ) → bit_xor (bit_xor a b) (bit_xor c d) ≡ bit_xor (bit_xor a c) (bit_xor b d)
xor-swap4 a b c d =
    xor_assoc a b (bit_xor c d)
    ∙ ap (bit_xor a) (sym (xor_assoc b c d) ∙ ap (λ (x : ℕ). bit_xor x d) (xor_comm b c) ∙ xor_assoc c b d)
    ∙ sym (xor_assoc a c (bit_xor b d))

-- a xor, k digits up
pub xor-shl : (a b k : ℕ) → bit_xor a b * 2 ^ k ≡ bit_xor (a * 2 ^ k) (b * 2 ^ k)
xor-shl a b k =
    sym (add-zero (bit_xor a b * 2 ^ k)) ∙ sym (xor_block k a b 0 0 (pow_pos k) (pow_pos k))
    ∙ ap₂ bit_xor (add-zero (a * 2 ^ k)) (add-zero (b * 2 ^ k))
