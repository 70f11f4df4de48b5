-- Numbers in lanes of 16 bits, each law over the number of lanes, and products of pieces in them. Main results: `lanes-apart` (four
-- products at once do not meet), `masked` (the even pieces), `window-zero` to `window-next` (what a window holds), `looked-up` (what
-- two look-ups give).
-- Assumes nothing.
use Rattle.std.proofs.Common.{◌≡◌, sym, ap, ap₂, subst, ◌∙◌, List, ⊎_elim, ℕ, zero, suc, ◌+◌, ◌-◌, ◌*◌, ◌/◌, ◌%◌, ◌^◌, ◌<◌, ◌≤◌, eq-or-lt_of_le, le_of_suc-le-suc, lt_of_lt_of_le, lt_of_le_of_lt, lt-suc_self, add_comm, mul-one, mul-suc, mul_comm, mul_right_comm, mod-lt, mod-eq_of_lt, arith, length, get_or, set, length-set, get_or-set_same, get_or-set_other, below_more, bit_xor, bit_and, pow_pos, pow-add, pow_mono, shl_lt, shl_exact}
use native.Mathlib.Nat.{le_step}
use lib.Arith.{digits_lt}
use lib.Bits.{xor_lt, xor_self, xor_comm, xor_shifted, and_zero_r, and_le_r, and_mask, and_mod, and_block}
use lib.Pow.{split, high}
use Rattle.gf128.proofs.Halves.{top_digit, field-in-low}
use Rattle.gf128.proofs.Xor.{xor-shl}
use Rattle.vector_product.specs.Pieces.{piece, clmul8, sum, lanes, lane, even_pieces, even_products, LanesApart}
use Rattle.vector_product.proofs.Bilinear.{enough, steps-most, sum-right, moved-right, power-left, swap}
use Rattle.vector_product.proofs.FromPieces.{sum-eq, sum-xor, sum-shl}

-- ---- numbers in lanes

next-lt : (n w : ℕ) (f : ℕ → ℕ) → lanes n f < 2 ^ (16 * n) → f n < 2 ^ w → lanes (suc n) f < 2 ^ (w + 16 * n)
unfolding sum
next-lt n w f h hn =
    xor_lt (w + 16 * n) (lanes n f) (f n * 2 ^ (16 * n)) (lt_of_lt_of_le h (pow_mono {i = 16 * n} {j = w + 16 * n} (omega arith))) (shl_lt w (16 * n) hn)

lanes-lt : (n : ℕ) (f : ℕ → ℕ) → ((k : ℕ) → k < n → f k < 2 ^ 16) → lanes n f < 2 ^ (16 * n)
unfolding sum
lanes-lt zero f h = pow_pos 0
lanes-lt (suc n) f h =
    subst (λ (k : ℕ). lanes (suc n) f < 2 ^ k) (add_comm 16 (16 * n) ∙ sym (mul-suc 16 n))
    (next-lt n 16 f (lanes-lt n f (λ k l. h k (le_step l))) (h n (lt-suc_self n)))

-- one lane more, above the others
lanes-join : (n : ℕ) (f : ℕ → ℕ) → lanes n f < 2 ^ (16 * n) → lanes (suc n) f ≡ f n * 2 ^ (16 * n) + lanes n f
unfolding sum
lanes-join n f h = xor_comm (lanes n f) (f n * 2 ^ (16 * n)) ∙ xor_shifted (f n) (16 * n) (lanes n f) h

-- what stands in a lane
lane_of : (n k : ℕ) (f : ℕ → ℕ) → ((j : ℕ) → j < n → f j < 2 ^ 16) → k < n → lane k (lanes n f) ≡ f k
lane_of zero k f h l = absurd (omega arith)
lane_of (suc n) k f h l =
    ap (lane k) (lanes-join n f below)
    ∙ ⊎_elim
    (λ (e : k ≡ n).
    ap (λ (j : ℕ). (f n * 2 ^ (16 * n) + lanes n f) / 2 ^ (16 * j) % 2 ^ 16) e
    ∙ ap (λ (x : ℕ). x % 2 ^ 16) (high (f n) (16 * n) below) ∙ mod-eq_of_lt (h n (lt-suc_self n)) ∙ ap f (sym e))
    (λ (lt : k < n).
    field-in-low (f n) (lanes n f) (16 * n) (16 * k) 16 (16 * (n - k - 1)) (omega arith) ∙ lane_of n k f (λ j l. h j (le_step l)) lt)
    (eq-or-lt_of_le (le_of_suc-le-suc l))
  where
    below : lanes n f < 2 ^ (16 * n)
    below = lanes-lt n f (λ j l. h j (le_step l))

lanes-shl : (n j : ℕ) (f : ℕ → ℕ) → lanes n (λ k. f k * 2 ^ j) ≡ lanes n f * 2 ^ j
lanes-shl n j f =
    sum-eq n (λ k h. mul_right_comm (f k) (2 ^ j) (2 ^ (16 * k))) ∙ sym (sum-shl n j (λ k. f k * 2 ^ (16 * k)))

lanes-xor : (n : ℕ) (f g : ℕ → ℕ) → lanes n (λ k. bit_xor (f k) (g k)) ≡ bit_xor (lanes n f) (lanes n g)
lanes-xor n f g =
    sum-eq n (λ k h. xor-shl (f k) (g k) (16 * k)) ∙ sum-xor n (λ k. f k * 2 ^ (16 * k)) (λ k. g k * 2 ^ (16 * k))

pub lanes-eq : (n : ℕ) {f g : ℕ → ℕ} → ((k : ℕ) → f k ≡ g k) → lanes n f ≡ lanes n g
lanes-eq n e = sum-eq n (λ k h. ap (λ (x : ℕ). x * 2 ^ (16 * k)) (e k))

-- ---- the even pieces

piece-lt : (i a : ℕ) → piece i a < 2 ^ 8
piece-lt i a = mod-lt (a / 2 ^ (8 * i)) (pow_pos 8)

-- ones in the low 8 bits of each of n lanes
unfoldable pub mask : ℕ → ℕ
mask zero = 0
mask (suc n) = (2 ^ 8 - 1) * 2 ^ (16 * n) + mask n

mask_lt : (n : ℕ) → mask n < 2 ^ (16 * n)
unfolding mask
mask_lt zero = pow_pos 0
mask_lt (suc n) =
    lt_of_lt_of_le (digits_lt (omega arith) (mask_lt n))
    (subst (λ (x : ℕ). x ≤ 2 ^ (16 * suc n)) (pow-add 2 16 (16 * n)) (pow_mono {i = 16 + 16 * n} {j = 16 * suc n} (omega arith)))

pub masked : (n a : ℕ) → bit_and a (mask n) ≡ lanes n (λ k. piece (2 * k) a)
unfolding mask sum
masked zero a = and_zero_r a
masked (suc n) a =
    ap (λ (x : ℕ). bit_and x (mask (suc n))) (sym (split a w))
    ∙ and_block w (a / 2 ^ w) (2 ^ 8 - 1) (a % 2 ^ w) (mask n) (mod-lt a (pow_pos w)) (mask_lt n)
    ∙ ap₂ (λ (x y : ℕ). x * 2 ^ w + y) (and_mask (a / 2 ^ w) 8 ∙ ap (λ (k : ℕ). a / 2 ^ k % 2 ^ 8) place) (rest ∙ masked n a)
    ∙ sym (lanes-join n (λ k. piece (2 * k) a) (lanes-lt n (λ k. piece (2 * k) a) (λ k h. lt_of_lt_of_le (piece-lt (2 * k) a) (pow_mono {i = 8} {j = 16} (omega arith)))))
  where
    w : ℕ
    w = 16 * n

    place : w ≡ 8 * (2 * n)
    place = omega arith

    rest : bit_and (a % 2 ^ w) (mask n) ≡ bit_and a (mask n)
    rest =
        ap (bit_and (a % 2 ^ w)) (sym (mod-eq_of_lt (mask_lt n))) ∙ sym (and_mod a (mask n) w)
        ∙ mod-eq_of_lt (lt_of_le_of_lt (and_le_r a (mask n)) (mask_lt n))

-- ---- four products at once

product_lt : (a q k : ℕ) → clmul8 (piece (2 * k) a) q < 2 ^ 16
unfolding clmul8
product_lt a q k = steps-most 8 (piece (2 * k) a) q 8 (piece-lt (2 * k) a)

pub lanes-apart : LanesApart
lanes-apart a q k h = lane_of 4 k (λ k. clmul8 (piece (2 * k) a) q) (λ j l. product_lt a q j) h

-- with four bits the products leave the four top bits free
pub products_lt : (a q : ℕ) → q < 2 ^ 4 → even_products a q < 2 ^ 60
unfolding clmul8
products_lt a q h =
    next-lt 3 12 (λ k. clmul8 (piece (2 * k) a) q) (lanes-lt 3 (λ k. clmul8 (piece (2 * k) a) q) (λ k l. product_lt a q k))
    (subst (λ (x : ℕ). x < 2 ^ 12) (sym (enough (piece 6 a) q 4 4 h)) (steps-most 4 (piece 6 a) q 8 (piece-lt 6 a)))

products-xor : (a x y : ℕ) → even_products a (bit_xor x y) ≡ bit_xor (even_products a x) (even_products a y)
unfolding clmul8
products-xor a x y =
    lanes-eq 4 (λ k. sum-right 8 (piece (2 * k) a) x y) ∙ lanes-xor 4 (λ k. clmul8 (piece (2 * k) a) x) (λ k. clmul8 (piece (2 * k) a) y)

products-moved : (a x j : ℕ) → x * 2 ^ j < 2 ^ 8 → even_products a (x * 2 ^ j) ≡ even_products a x * 2 ^ j
unfolding clmul8
products-moved a x j h =
    lanes-eq 4 (λ k. moved-right 8 j (piece (2 * k) a) x (piece-lt (2 * k) a) h) ∙ lanes-shl 4 j (λ k. clmul8 (piece (2 * k) a) x)

-- ---- a window

pub window-zero : (a : ℕ) → even_products a 0 ≡ 0
window-zero a = products-xor a 0 0 ∙ xor_self (even_products a 0)

pub window-one : (a : ℕ) → even_pieces a ≡ even_products a 1
unfolding clmul8
window-one a =
    lanes-eq 4 (λ k.
    sym
    (swap 8 8 (piece (2 * k) a) 1 (piece-lt (2 * k) a) (omega arith) ∙ power-left 8 0 (piece (2 * k) a)
    ∙ mul-one (piece (2 * k) a % 2 ^ 8) ∙ mod-eq_of_lt (piece-lt (2 * k) a)))

-- an entry moved up by j is the entry of the moved number
pub window-moved : (a n j : ℕ) → n < 2 ^ 4 → j ≤ 4 → even_products a n * 2 ^ j % 2 ^ 64 ≡ even_products a (n * 2 ^ j)
window-moved a n j h l =
    shl_exact 60 j 64 (products_lt a n h) (omega arith)
    ∙ sym (products-moved a n j (lt_of_lt_of_le (shl_lt 4 j h) (pow_mono {i = 4 + j} {j = 8} (omega arith))))

-- the entry after that of an even number
pub window-next : (a n : ℕ) → bit_xor (even_products a (2 * n)) (even_products a 1) ≡ even_products a (2 * n + 1)
window-next a n =
    sym (products-xor a (2 * n) 1)
    ∙ ap (even_products a) (ap (λ (x : ℕ). bit_xor x 1) (mul_comm 2 n) ∙ xor_shifted n 1 1 (omega arith) ∙ ap (λ (x : ℕ). x + 1) (mul_comm n 2))

-- two entries more
pub two-more : (P : ℕ → ℕ) (t : List ℕ) (m x y : ℕ) → m + 1 < length t → ((k : ℕ) → k < m → get_or t k 0 ≡ P k) → x ≡ P m → y ≡ P (m + 1)
    → (k : ℕ) → k < m + 1 + 1 → get_or (set (set t m x) (m + 1) y) k 0 ≡ P k
two-more P t m x y h all ex ey =
    below_more _ (m + 1)
    (below_more _ m
    (λ k l. get_or-set_other (set t m x) (m + 1) k y 0 (omega arith) ∙ get_or-set_other t m k x 0 (omega arith) ∙ all k l)
    (get_or-set_other (set t m x) (m + 1) m y 0 (omega arith) ∙ get_or-set_same t m x 0 (omega arith) ∙ ex))
    (get_or-set_same (set t m x) (m + 1) y 0 (rw (length-set t m x) h) ∙ ey)

-- two look-ups: the low four bits of a piece and the high four
pub looked-up : (a b : ℕ)
    → bit_xor (even_products a (b % 2 ^ 4)) (even_products a (b / 2 ^ 4 % 2 ^ 4) * 2 ^ 4 % 2 ^ 64) ≡ even_products a (b % 2 ^ 8)
looked-up a b =
    ap (bit_xor (even_products a low)) (window-moved a up 4 (mod-lt (b / 2 ^ 4) (pow_pos 4)) (omega arith))
    ∙ sym (products-xor a low (up * 2 ^ 4))
    ∙ ap (even_products a) (top_digit b 4 4)
  where
    low : ℕ
    low = b % 2 ^ 4

    up : ℕ
    up = b / 2 ^ 4 % 2 ^ 4
