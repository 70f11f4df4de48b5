-- The carry-less product is a product of polynomials over two elements, each law over the number of steps. Main results: `sum_left`,
-- `sum-right` (it goes through xor in either factor), `moved-left`, `moved-right` (and through a move up), `swap`, `product-comm` (the
-- factors may be exchanged), `product_lt`, `halves` (two w-bit numbers have a product of 2w bits, which is its two halves together),
-- `enough`, `whole` (w steps are enough for a w-bit factor), `more-steps` (the steps in two parts).
-- Assumes nothing.
use Rattle.std.proofs.Common.{◌≡◌, refl, sym, ap, ap₂, subst, ◌∙◌, ℕ, zero, suc, ◌+◌, ◌-◌, ◌*◌, ◌/◌, ◌%◌, ◌^◌, ◌<◌, ◌≤◌, lt_of_lt_of_le, lt_of_le_of_lt, zero-mul, one-mul, two-mul, add-suc, add_comm, le-add_right, le-mul_of_pos_right, lt_of_not-le, add-zero, mul-zero, le_refl, mul_assoc, mul_comm, mul_right_comm, mod-lt, mod-eq_of_lt, one-add, arith, bit_xor, pow_pos, pow_mono, shl_lt, shr-shr}
use native.Mathlib.Nat.{div-eq_of_lt, zero-mod, mod-one, le_of_suc-le}
use native.Mathlib.Decide.{dec_le}
use lib.Arith.{lt-one}
use lib.Bits.{xor_lt, xor_shr, xor_zero_r}
use lib.Pow.{recompose, mod-mod-pow, field}
use Rattle.gf128.proofs.Halves.{shl-shl, top_digit}
use Rattle.gf128.proofs.Places.{digit-ind, digit-xor, xor-digit, digit_lt}
use Rattle.gf128.proofs.Xor.{xor_assoc, xor-odd, xor-swap4, xor-shl}
use Rattle.vector_product.specs.Clmul.{clmul, clmul64, low_half, high_half}
use Rattle.vector_product.proofs.Carryless.{bit_of, bit-lt}

-- ---- bits past the width are zeros

bit_past : (b w n : ℕ) → b < 2 ^ w → w ≤ n → bit_of b n ≡ 0
bit_past b w n hb h = ap (λ (x : ℕ). x % 2) (div-eq_of_lt (lt_of_lt_of_le hb (pow_mono h))) ∙ zero-mod 2

term-past : (a b w n : ℕ) → b < 2 ^ w → w ≤ n → bit_of b n * (a * 2 ^ n) ≡ 0
term-past a b w n hb h = ap (λ (d : ℕ). d * (a * 2 ^ n)) (bit_past b w n hb h) ∙ zero-mul (a * 2 ^ n)

-- steps past the width change nothing
pub enough : (a b w d : ℕ) → b < 2 ^ w → clmul (w + d) a b ≡ clmul w a b
unfolding clmul
enough a b w zero hb = ap (λ (n : ℕ). clmul n a b) (add-zero w)
enough a b w (suc d) hb =
    ap (λ (n : ℕ). clmul n a b) (add-suc w d)
    ∙ ap₂ bit_xor (enough a b w d hb) (term-past a b w (w + d) hb (le-add_right w d))
    ∙ xor_zero_r (clmul w a b)

pub whole : (a b w : ℕ) → b < 2 ^ w → w ≤ 64 → clmul64 a b ≡ clmul w a b
unfolding clmul64
whole a b w hb h =
    let e : 64 ≡ w + (64 - w) = omega arith in
    ap (λ (n : ℕ). clmul n a b) e ∙ enough a b w (64 - w) hb

-- the steps alone bound the product
pub steps-most : (n a b w : ℕ) → a < 2 ^ w → clmul n a b < 2 ^ (w + n)
unfolding clmul
steps-most zero a b w ha = pow_pos (w + 0)
steps-most (suc n) a b w ha =
    xor_lt (w + suc n) (clmul n a b) (bit_of b n * (a * 2 ^ n))
    (lt_of_lt_of_le (steps-most n a b w ha) more)
    (digit_lt (bit_of b n) (a * 2 ^ n) (2 ^ (w + suc n)) (bit-lt b n) (lt_of_lt_of_le (shl_lt w n ha) more))
  where
    more : 2 ^ (w + n) ≤ 2 ^ (w + suc n)
    more = pow_mono {i = w + n} {j = w + suc n} (omega arith)

pub sum_lt : (a b w : ℕ) → a < 2 ^ w → b < 2 ^ w → clmul64 a b < 2 ^ (w + w)
unfolding clmul64
sum_lt a b w ha hb = go (dec_le w 64)
  where
    go : Dec (w ≤ 64) → clmul64 a b < 2 ^ (w + w)
    go (yes h) = subst (λ (x : ℕ). x < 2 ^ (w + w)) (sym (whole a b w hb h)) (steps-most w a b w ha)
    go (no h) = lt_of_lt_of_le (steps-most 64 a b w ha) (pow_mono {i = w + 64} {j = w + w} (let l = lt_of_not-le h in omega arith))

pub product_lt : (a b w : ℕ) → a < 2 ^ w → b < 2 ^ w → clmul64 a b < 2 ^ (2 * w)
product_lt a b w ha hb = subst (λ (k : ℕ). clmul64 a b < 2 ^ k) (sym (two-mul w)) (sum_lt a b w ha hb)

pub halves : (a b w : ℕ) → a < 2 ^ w → b < 2 ^ w → high_half w (clmul64 a b) * 2 ^ w + low_half w (clmul64 a b) ≡ clmul64 a b
halves a b w ha hb = recompose w w (sum_lt a b w ha hb)

-- the first n steps, then w more
pub more-steps : (n w a b : ℕ) → clmul (n + w) a b ≡ bit_xor (clmul n a b) (clmul w a (b / 2 ^ n) * 2 ^ n)
unfolding clmul
more-steps n zero a b =
    ap (λ (j : ℕ). clmul j a b) (add-zero n) ∙ sym (ap (bit_xor (clmul n a b)) (zero-mul (2 ^ n)) ∙ xor_zero_r (clmul n a b))
more-steps n (suc w) a b =
    ap (λ (j : ℕ). clmul j a b) (add-suc n w)
    ∙ ap₂ bit_xor (more-steps n w a b) term
    ∙ xor_assoc (clmul n a b) (clmul w a (b / 2 ^ n) * 2 ^ n) (bit_of (b / 2 ^ n) w * (a * 2 ^ w) * 2 ^ n)
    ∙ ap (bit_xor (clmul n a b)) (sym (xor-shl (clmul w a (b / 2 ^ n)) (bit_of (b / 2 ^ n) w * (a * 2 ^ w)) n))
  where
    term : bit_of b (n + w) * (a * 2 ^ (n + w)) ≡ bit_of (b / 2 ^ n) w * (a * 2 ^ w) * 2 ^ n
    term =
        ap₂ ◌*◌ (ap (λ (x : ℕ). x % 2) (sym (shr-shr b n w)))
        (ap (λ (k : ℕ). a * 2 ^ k) (add_comm n w) ∙ shl-shl a w n)
        ∙ sym (mul_assoc (bit_of (b / 2 ^ n) w) (a * 2 ^ w) (2 ^ n))

-- ---- sums in either factor

pub sum_left : (n x y b : ℕ) → clmul n (bit_xor x y) b ≡ bit_xor (clmul n x b) (clmul n y b)
unfolding clmul
sum_left zero x y b = refl
sum_left (suc n) x y b =
    ap₂ bit_xor (sum_left n x y b) (ap (λ (v : ℕ). bit_of b n * v) (xor-shl x y n) ∙ xor-digit (bit_of b n) (x * 2 ^ n) (y * 2 ^ n) (bit-lt b n))
    ∙ xor-swap4 (clmul n x b) (clmul n y b) (bit_of b n * (x * 2 ^ n)) (bit_of b n * (y * 2 ^ n))

pub sum-right : (n a x y : ℕ) → clmul n a (bit_xor x y) ≡ bit_xor (clmul n a x) (clmul n a y)
unfolding clmul
sum-right zero a x y = refl
sum-right (suc n) a x y =
    ap₂ bit_xor (sum-right n a x y)
    (ap (λ (d : ℕ). d * (a * 2 ^ n)) (ap (λ (v : ℕ). v % 2) (xor_shr x y n) ∙ xor-odd (x / 2 ^ n) (y / 2 ^ n))
    ∙ digit-xor (bit_of x n) (bit_of y n) (a * 2 ^ n) (bit-lt x n) (bit-lt y n))
    ∙ xor-swap4 (clmul n a x) (clmul n a y) (bit_of x n * (a * 2 ^ n)) (bit_of y n * (a * 2 ^ n))

pub zero_left : (n b : ℕ) → clmul n 0 b ≡ 0
unfolding clmul
zero_left zero b = refl
zero_left (suc n) b = ap₂ bit_xor (zero_left n b) (ap (λ (v : ℕ). bit_of b n * v) (zero-mul (2 ^ n)) ∙ mul-zero (bit_of b n))

pub moved-left : (n k a b : ℕ) → clmul n (a * 2 ^ k) b ≡ clmul n a b * 2 ^ k
unfolding clmul
moved-left zero k a b = sym (zero-mul (2 ^ k))
moved-left (suc n) k a b =
    ap₂ bit_xor (moved-left n k a b)
    (ap (λ (v : ℕ). bit_of b n * v) (mul_right_comm a (2 ^ k) (2 ^ n)) ∙ sym (mul_assoc (bit_of b n) (a * 2 ^ n) (2 ^ k)))
    ∙ sym (xor-shl (clmul n a b) (bit_of b n * (a * 2 ^ n)) k)

-- ---- the factors may be exchanged

-- bit n of a number and those below it
top_bit : (b n : ℕ) → bit_xor (b % 2 ^ n) (bit_of b n * 2 ^ n) ≡ b % 2 ^ suc n
top_bit b n = top_digit b 1 n ∙ ap (λ (j : ℕ). b % 2 ^ j) (one-add n)

pub power-left : (n k b : ℕ) → clmul n (2 ^ k) b ≡ b % 2 ^ n * 2 ^ k
unfolding clmul
power-left zero k b = sym (ap (λ (v : ℕ). v * 2 ^ k) (mod-one b) ∙ zero-mul (2 ^ k))
power-left (suc n) k b =
    ap₂ bit_xor (power-left n k b) (ap (λ (v : ℕ). bit_of b n * v) (mul_comm (2 ^ k) (2 ^ n)) ∙ sym (mul_assoc (bit_of b n) (2 ^ n) (2 ^ k)))
    ∙ sym (xor-shl (b % 2 ^ n) (bit_of b n * 2 ^ n) k)
    ∙ ap (λ (v : ℕ). v * 2 ^ k) (top_bit b n)

-- one bit as the left factor
bit-left : (n k d b : ℕ) → d < 2 → b < 2 ^ n → clmul n (d * 2 ^ k) b ≡ d * (b * 2 ^ k)
bit-left n k d b h hb =
    digit-ind (λ d. clmul n (d * 2 ^ k) b ≡ d * (b * 2 ^ k))
    (ap (λ (x : ℕ). clmul n x b) (zero-mul (2 ^ k)) ∙ zero_left n b ∙ sym (zero-mul (b * 2 ^ k)))
    (ap (λ (x : ℕ). clmul n x b) (one-mul (2 ^ k)) ∙ power-left n k b ∙ ap (λ (x : ℕ). x * 2 ^ k) (mod-eq_of_lt hb) ∙ sym (one-mul (b * 2 ^ k)))
    d h

-- the bits past the steps do not matter
low_bit : (b k j : ℕ) → j < k → bit_of (b % 2 ^ k) j ≡ bit_of b j
low_bit b k j h =
    let e : k ≡ k - j - 1 + 1 + j = omega arith in
    ap (λ (x : ℕ). b % 2 ^ x / 2 ^ j % 2) e ∙ ap (λ (x : ℕ). x % 2) (field b (k - j - 1 + 1) j) ∙ mod-mod-pow (b / 2 ^ j) (k - j - 1) 1

pub low-right : (n k a b : ℕ) → n ≤ k → clmul n a (b % 2 ^ k) ≡ clmul n a b
unfolding clmul
low-right zero k a b h = refl
low-right (suc n) k a b h = ap₂ bit_xor (low-right n k a b (le_of_suc-le h)) (ap (λ (d : ℕ). d * (a * 2 ^ n)) (low_bit b k n h))

pub swap : (n m a b : ℕ) → a < 2 ^ m → b < 2 ^ n → clmul n a b ≡ clmul m b a
unfolding clmul
swap zero m a b ha hb = sym (ap (λ (x : ℕ). clmul m x a) (lt-one hb) ∙ zero_left m a)
swap (suc n) m a b ha hb =
    ap₂ bit_xor (sym (low-right n n a b (le_refl n)) ∙ swap n m a (b % 2 ^ n) ha (mod-lt b (pow_pos n))) (sym (bit-left m n (bit_of b n) a (bit-lt b n) ha))
    ∙ sym (sum_left m (b % 2 ^ n) (bit_of b n * 2 ^ n) a)
    ∙ ap (λ (x : ℕ). clmul m x a) (top_bit b n ∙ mod-eq_of_lt hb)

pub product-comm : (a b : ℕ) → a < 2 ^ 64 → b < 2 ^ 64 → clmul64 a b ≡ clmul64 b a
unfolding clmul64
product-comm a b ha hb = swap 64 64 a b ha hb

pub moved-right : (n k a b : ℕ) → a < 2 ^ n → b * 2 ^ k < 2 ^ n → clmul n a (b * 2 ^ k) ≡ clmul n a b * 2 ^ k
moved-right n k a b ha hb =
    swap n n a (b * 2 ^ k) ha hb ∙ moved-left n k b a
    ∙ ap (λ (x : ℕ). x * 2 ^ k) (swap n n b a (lt_of_le_of_lt (le-mul_of_pos_right b (pow_pos k)) hb) ha)
