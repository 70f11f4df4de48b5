-- The carry-less product from products of pieces, each law over the number of pieces. Main results: `digits-left`, `digits-right` (a
-- factor in digits of any width), `whole-from-pieces`, `both_halves` (the products of pieces make up the whole).
-- Assumes nothing.
use Rattle.std.proofs.Common.{◌≡◌, refl, sym, ap, ap₂, ◌∙◌, ℕ, zero, suc, ◌+◌, ◌*◌, ◌/◌, ◌%◌, ◌^◌, ◌<◌, lt-suc_self, le_refl, add_comm, mul-add, mul-zero, zero-mul, mul-suc, mod-eq_of_lt, bit_xor}
use native.Mathlib.Nat.{le_step, mod-one}
use Rattle.gf128.proofs.Halves.{shl-shl, top_digit}
use Rattle.gf128.proofs.Xor.{xor-swap4, xor-shl}
use Rattle.vector_product.specs.Clmul.{clmul, clmul64, low_half, high_half}
use Rattle.vector_product.specs.Pieces.{piece, clmul8, sum, sum_of_products, WholeFromPieces, BothHalves}
use Rattle.vector_product.proofs.Bilinear.{more-steps, sum_left, moved-left, low-right, zero_left}

-- ---- sums

pub sum-eq : (n : ℕ) {f g : ℕ → ℕ} → ((i : ℕ) → i < n → f i ≡ g i) → sum n f ≡ sum n g
unfolding sum
sum-eq zero e = refl
sum-eq (suc n) e = ap₂ bit_xor (sum-eq n (λ i h. e i (le_step h))) (e n (lt-suc_self n))

pub sum-xor : (n : ℕ) (f g : ℕ → ℕ) → sum n (λ i. bit_xor (f i) (g i)) ≡ bit_xor (sum n f) (sum n g)
unfolding sum
sum-xor zero f g = refl
sum-xor (suc n) f g = ap (λ (x : ℕ). bit_xor x (bit_xor (f n) (g n))) (sum-xor n f g) ∙ xor-swap4 (sum n f) (sum n g) (f n) (g n)

pub sum-shl : (n k : ℕ) (f : ℕ → ℕ) → sum n f * 2 ^ k ≡ sum n (λ i. f i * 2 ^ k)
unfolding sum
sum-shl zero k f = zero-mul (2 ^ k)
sum-shl (suc n) k f = xor-shl (sum n f) (f n) k ∙ ap (λ (x : ℕ). bit_xor x (f n * 2 ^ k)) (sum-shl n k f)

-- ---- a factor in digits of w bits

digits-left : (w n m a b : ℕ) → clmul n (a % 2 ^ (w * m)) b ≡ sum m (λ i. clmul n (a / 2 ^ (w * i) % 2 ^ w) b * 2 ^ (w * i))
unfolding sum
digits-left w n zero a b =
    ap (λ (k : ℕ). clmul n (a % 2 ^ k) b) (mul-zero w) ∙ ap (λ (x : ℕ). clmul n x b) (mod-one a) ∙ zero_left n b
digits-left w n (suc m) a b =
    ap (λ (k : ℕ). clmul n (a % 2 ^ k) b) (mul-suc w m ∙ add_comm (w * m) w)
    ∙ ap (λ (x : ℕ). clmul n x b) (sym (top_digit a w (w * m)))
    ∙ sum_left n rest (d * 2 ^ (w * m)) b
    ∙ ap₂ bit_xor (digits-left w n m a b) (moved-left n (w * m) d b)
  where
    d : ℕ
    d = a / 2 ^ (w * m) % 2 ^ w

    rest : ℕ
    rest = a % 2 ^ (w * m)

digits-right : (w n a b : ℕ) → clmul (w * n) a b ≡ sum n (λ j. clmul w a (b / 2 ^ (w * j) % 2 ^ w) * 2 ^ (w * j))
unfolding sum clmul
digits-right w zero a b = ap (λ (k : ℕ). clmul k a b) (mul-zero w)
digits-right w (suc n) a b =
    ap (λ (k : ℕ). clmul k a b) (mul-suc w n)
    ∙ more-steps (w * n) w a b
    ∙ ap₂ bit_xor (digits-right w n a b) (ap (λ (x : ℕ). x * 2 ^ (w * n)) (sym (low-right w w a (b / 2 ^ (w * n)) (le_refl w))))

-- ---- the whole

-- a's pieces times one piece of b, at that piece's place
pub placed : (m a q j : ℕ) → sum m (λ i. clmul8 (piece i a) q * 2 ^ (8 * i)) * 2 ^ (8 * j) ≡ sum m (λ i. clmul8 (piece i a) q * 2 ^ (8 * (i + j)))
placed m a q j =
    sum-shl m (8 * j) (λ i. clmul8 (piece i a) q * 2 ^ (8 * i))
    ∙ sum-eq m (λ i h.
    sym (shl-shl (clmul8 (piece i a) q) (8 * i) (8 * j)) ∙ ap (λ (k : ℕ). clmul8 (piece i a) q * 2 ^ k) (sym (mul-add 8 i j)))

pub whole-from-pieces : WholeFromPieces
unfolding clmul8
whole-from-pieces m n a b ha =
    digits-right 8 n a b
    ∙ sum-eq n (λ j h.
    ap (λ (x : ℕ). x * 2 ^ (8 * j)) (ap (λ (x : ℕ). clmul 8 x (piece j b)) (sym (mod-eq_of_lt ha)) ∙ digits-left 8 8 m a (piece j b))
    ∙ placed m a (piece j b) j)

pub both_halves : BothHalves
unfolding clmul64
both_halves a b ha =
    let e : clmul64 a b ≡ sum_of_products 8 8 a b = whole-from-pieces 8 8 a b ha in
    record { low = ap (low_half 64) e; high = ap (high_half 64) e }
