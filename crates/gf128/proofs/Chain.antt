-- One chain of steps for four products at once, four coefficients at a time, from the last to the first.
-- Main results: `chain-step` (four more coefficients of each factor) and `chain-end` (the four quarters of a block are done, and the
-- keys are h, times x ^ j, x ^ 2j and x ^ 3j: the block's product).
-- Assumes nothing.
use mathlib.Core.Path.{◌≡◌, sym, ap, ap₂, ◌∙◌, subst}
use Prim.Native.Nat.{ℕ, suc, ◌+◌, ◌-◌, ◌*◌, ◌/◌, ◌%◌, ◌^◌, ◌<◌, ◌≤◌}
use native.Mathlib.Nat.{add_comm, mod-one, mod-eq_of_lt, zero-mul}
use native.Mathlib.Omega.{arith}
use lib.Arith.{digits_lt}
use lib.Bits.{bit_xor, xor_comm}
use lib.Pow.{pow-add}
use Rattle.gf128.specs.Field.{shifted_of, product_of}
use Rattle.gf128.proofs.Xor.{xor-swap4}
use Rattle.gf128.proofs.Places.{shifted_of-xor, shifted_of-add, product_of-zero-left}
use Rattle.gf128.proofs.Nibbles.{product_of-step, product_of-halves, product_of-split}

-- the k low digits of u, as the first k coefficients
abbrev pub front : ℕ → ℕ → ℕ → ℕ
front m u k = u % 2 ^ k * 2 ^ (suc m - k)

-- four coefficients n, and no others
abbrev pub four : ℕ → ℕ → ℕ
four m n = n * 2 ^ (suc m - 4)

abbrev sum : ℕ → ℕ → ℕ → ℕ → ℕ
sum a b c d = bit_xor (bit_xor a b) (bit_xor c d)

module _ (m R : ℕ) where
  -- f is a chain that adds e k after its first k coefficients
  abbrev Steps : (ℕ → ℕ) → (ℕ → ℕ) → Type 0
  Steps f e = (k : ℕ) → k + 4 ≤ suc m → f (k + 4) ≡ bit_xor (shifted_of R (f k) 4) (e k)

  -- one product
  single : (u v : ℕ) → Steps (λ (k : ℕ). product_of m R (front m u k) v) (λ (k : ℕ). product_of m R (four m (u / 2 ^ k % 2 ^ 4)) v)
  single u v k l =
      let d = suc m - (k + 4) in
      let e : 4 + (k + d) ≡ suc m = omega arith in
      let top : k + d ≡ suc m - 4 = omega arith in
      let rest : d + 4 ≡ suc m - k = omega arith in
      ap (λ (x : ℕ). product_of m R (u % 2 ^ x * 2 ^ d) v) (add_comm k 4)
      ∙ product_of-step m R 4 k d u v e
      ∙ xor_comm (product_of m R (u / 2 ^ k % 2 ^ 4 * 2 ^ (k + d)) v) (shifted_of R (product_of m R (u % 2 ^ k * 2 ^ (d + 4)) v) 4)
      ∙ ap₂ (λ (x y : ℕ). bit_xor (shifted_of R (product_of m R (u % 2 ^ k * 2 ^ x) v) 4) (product_of m R (u / 2 ^ k % 2 ^ 4 * 2 ^ y) v)) rest top

  -- two chains at once
  both : (f e g i : ℕ → ℕ) → Steps f e → Steps g i → Steps (λ (k : ℕ). bit_xor (f k) (g k)) (λ (k : ℕ). bit_xor (e k) (i k))
  both f e g i s t k l =
      ap₂ bit_xor (s k l) (t k l)
      ∙ xor-swap4 (shifted_of R (f k) 4) (e k) (shifted_of R (g k) 4) (i k)
      ∙ ap (λ (x : ℕ). bit_xor x (bit_xor (e k) (i k))) (sym (shifted_of-xor R (f k) (g k) 4))

  nothing : (u v : ℕ) → product_of m R (front m u 0) v ≡ 0
  nothing u v =
      ap (λ (x : ℕ). product_of m R x v) (ap (λ (x : ℕ). x * 2 ^ (suc m - 0)) (mod-one u) ∙ zero-mul (2 ^ (suc m - 0)))
      ∙ product_of-zero-left m R v

  module _ (h g i j a b c d : ℕ) where
    -- with the k low digits of each factor done
    unfoldable pub chain : ℕ → ℕ
    chain k = sum (product_of m R (front m a k) h) (product_of m R (front m b k) g) (product_of m R (front m c k) i) (product_of m R (front m d k) j)

    -- what the next four coefficients add
    abbrev pub entries : ℕ → ℕ → ℕ → ℕ → ℕ
    entries p q r s = sum (product_of m R (four m p) h) (product_of m R (four m q) g) (product_of m R (four m r) i) (product_of m R (four m s) j)

    pub chain-start : chain 0 ≡ 0
    unfolding chain
    chain-start = ap₂ bit_xor (ap₂ bit_xor (nothing a h) (nothing b g)) (ap₂ bit_xor (nothing c i) (nothing d j))

    pub chain-step : (k : ℕ) → k + 4 ≤ suc m
        → chain (k + 4) ≡ bit_xor (shifted_of R (chain k) 4) (entries (a / 2 ^ k % 2 ^ 4) (b / 2 ^ k % 2 ^ 4) (c / 2 ^ k % 2 ^ 4) (d / 2 ^ k % 2 ^ 4))
    unfolding chain
    chain-step k l =
        both _ _ _ _ (both _ _ _ _ (single a h) (single b g)) (both _ _ _ _ (single c i) (single d j)) k l

-- the quarters of j coefficients are done: the whole product
pub chain-end : (m R h j a b c d : ℕ) → j + (j + (j + j)) ≡ suc m → a < 2 ^ j → b < 2 ^ j → c < 2 ^ j → d < 2 ^ j
    → chain m R h (shifted_of R h j) (shifted_of R h (j + j)) (shifted_of R h (j + j + j)) a b c d j
    ≡ product_of m R ((a * 2 ^ j + b) * 2 ^ (j + j) + (c * 2 ^ j + d)) h
unfolding chain
chain-end m R h j a b c d e ha hb hc hd =
    let rest : suc m - j ≡ j + (j + j) = omega arith in
    let halves : j + j + (j + j) ≡ suc m = omega arith in
    let low : c * 2 ^ j + d < 2 ^ (j + j) = subst (λ (x : ℕ). c * 2 ^ j + d < x) (sym (pow-add 2 j j)) (digits_lt hc hd) in
    ap₂ bit_xor (ap₂ bit_xor (placed a h ha rest) (placed b (shifted_of R h j) hb rest))
    (ap₂ bit_xor (placed c (shifted_of R h (j + j)) hc rest) (placed d (shifted_of R h (j + j + j)) hd rest))
    ∙ sym
    (product_of-halves m R (j + j) (j + j) (a * 2 ^ j + b) (c * 2 ^ j + d) h halves low
    ∙ ap₂ bit_xor (product_of-split m R j (j + j) a b h e hb)
    (product_of-split m R j (j + j) c d (shifted_of R h (j + j)) e hd
    ∙ ap (λ (x : ℕ). bit_xor (product_of m R (c * 2 ^ (j + (j + j))) (shifted_of R h (j + j))) (product_of m R (d * 2 ^ (j + (j + j))) x))
    (sym (shifted_of-add R h (j + j) j))))
  where
    placed : (u v : ℕ) {n : ℕ} → u < 2 ^ j → suc m - j ≡ n → product_of m R (front m u j) v ≡ product_of m R (u * 2 ^ n) v
    placed u v l r = ap₂ (λ (x y : ℕ). product_of m R (x * 2 ^ y) v) (mod-eq_of_lt l) r
