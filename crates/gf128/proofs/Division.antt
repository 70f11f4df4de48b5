-- Division of blocks: a block of degree d ends in 127 - d zeros, and x ^ k times a block is its number divided by 2 ^ k.
-- Main results: `degree-ends`, `degree-one` (degree 0 is the one block), `row_cut` (a row and x ^ k times another, added, are a row) and
-- `cut-degree` (the degree falls). Assumes nothing.
use mathlib.Core.Path.{◌≡◌, refl, sym, ap, ap₂, ◌∙◌, subst}
use mathlib.Core.Bool.{Bool, true, false, cond}
use mathlib.Core.Logic.{◌≢◌}
use Prim.Native.Nat.{ℕ, zero, suc, ◌+◌, ◌-◌, ◌*◌, ◌/◌, ◌%◌, ◌^◌, ◌<◌, ◌≤◌}
use native.Mathlib.Nat.{lt_of_le_of_lt, suc-add, zero-mul, one-mul, add-zero, mod-eq_of_lt, mod-lt, mod-one, mod_self, zero-mod, zero-div, lt_irrefl, lt_of_not-le, le_of_suc-le-suc, zero-lt-suc}
use native.Mathlib.Numerals.{one-add}
use native.Mathlib.Omega.{arith}
use borrow.Author.Tests.{eqb-true, eqb-false}
use lib.Bits.{bit_xor, xor_lt, xor_mod, xor_self, xor_zero_r}
use lib.Dec.{eqb}
use lib.Pow.{pow_pos, pow-add, shl-shr, shr_le, field, mod-pow-add, mod-mod-pow}
use Rattle.gf128.specs.Degree.{highest, degree_of, degree_refusal}
use Rattle.gf128.specs.Field.{coeff_of, coefficient, times_x, shifted_of, shifted, product, reduction, one}
use Rattle.gf128.proofs.Places.{shifted_of-zero, product_of-shifted}
use Rattle.gf128.proofs.Nibbles.{shifted_of-overflow}
use Rattle.gf128.proofs.Field.{product-xor-right, product-one-right}

-- ---- the last digits of a number

pub zeros-less : (v n j : ℕ) → j ≤ n → v % 2 ^ n ≡ 0 → v % 2 ^ j ≡ 0
zeros-less v n j l e =
    let q : n - j + j ≡ n = omega arith in
    sym (mod-mod-pow v (n - j) j) ∙ ap (λ (x : ℕ). v % 2 ^ x % 2 ^ j) q ∙ ap (λ (x : ℕ). x % 2 ^ j) e ∙ zero-mod (2 ^ j)

-- v ends in a 1 and z zeros
abbrev pub Ends : ℕ → ℕ → Type 0
Ends v z = v % 2 ^ suc z ≡ 2 ^ z

pub ends-zeros : (v z : ℕ) → Ends v z → v % 2 ^ z ≡ 0
ends-zeros v z e =
    sym (mod-mod-pow v 1 z) ∙ ap (λ (x : ℕ). v % 2 ^ x % 2 ^ z) (one-add z) ∙ ap (λ (x : ℕ). x % 2 ^ z) e ∙ mod_self (2 ^ z)

pub ends-positive : (v z : ℕ) → Ends v z → v ≢ 0
ends-positive v z e n =
    lt_irrefl 0 (subst (λ (x : ℕ). 0 < x) (sym e ∙ ap (λ (x : ℕ). x % 2 ^ suc z) n ∙ zero-mod (2 ^ suc z)) (pow_pos z))

-- no more zeros than there are
pub ends-most : (v z n : ℕ) → Ends v z → v % 2 ^ n ≡ 0 → n ≤ z
ends-most v z n e h =
    le_of_suc-le-suc
    (lt_of_not-le (λ l. lt_irrefl 0 (subst (λ (x : ℕ). 0 < x) (sym e ∙ zeros-less v n (suc z) l h) (pow_pos z))))

pub zeros-shift : (v j k : ℕ) → v % 2 ^ (j + k) ≡ 0 → v / 2 ^ k % 2 ^ j ≡ 0
zeros-shift v j k e = sym (field v j k) ∙ ap (λ (x : ℕ). x / 2 ^ k) e ∙ zero-div (2 ^ k)

pub ends-shift : (v z k : ℕ) → Ends v (z + k) → Ends (v / 2 ^ k) z
ends-shift v z k e =
    sym (field v (suc z) k)
    ∙ ap (λ (x : ℕ). x / 2 ^ k) (ap (λ (x : ℕ). v % 2 ^ x) (suc-add z k) ∙ e ∙ pow-add 2 z k)
    ∙ shl-shr (2 ^ z) k

pub ends-xor : (a b z : ℕ) → Ends a z → b % 2 ^ suc z ≡ 0 → Ends (bit_xor a b) z
ends-xor a b z ea eb = xor_mod a b (suc z) ∙ ap₂ bit_xor ea eb ∙ xor_zero_r (2 ^ z)

pub xor-ends : (a b z : ℕ) → a % 2 ^ suc z ≡ 0 → Ends b z → Ends (bit_xor a b) z
xor-ends a b z ea eb = xor_mod a b (suc z) ∙ ap₂ bit_xor ea eb

pub ends-cancel : (a b z : ℕ) → Ends a z → Ends b z → bit_xor a b % 2 ^ suc z ≡ 0
ends-cancel a b z ea eb = xor_mod a b (suc z) ∙ ap₂ bit_xor ea eb ∙ xor_self (2 ^ z)

-- ---- the degree

highest-le : (u n m : ℕ) → n ≤ suc m → highest u n ≤ m
unfolding highest
highest-le u zero m l = omega arith
highest-le u (suc n) m l = pick (eqb (coefficient u n) 0) (highest-le u n m (omega arith)) (omega arith)
  where
    pick : (b : Bool) → highest u n ≤ m → n ≤ m → cond b (highest u n) n ≤ m
    pick true p q = p
    pick false p q = q

pub degree-le : (u : ℕ) → degree_of u ≤ 127
unfolding degree_of
degree-le u = highest-le u 128 127 (omega arith)

-- one digit more
digit-more : (u d : ℕ) → u % 2 ^ d ≡ 0 → u % 2 ^ suc d ≡ u / 2 ^ d % 2 * 2 ^ d
digit-more u d e =
    ap (λ (x : ℕ). u % 2 ^ x) (sym (one-add d)) ∙ mod-pow-add u 1 d
    ∙ ap (λ (x : ℕ). u / 2 ^ d % 2 * 2 ^ d + x) e ∙ add-zero (u / 2 ^ d % 2 * 2 ^ d)

odd-one : (n : ℕ) → (n % 2 ≡ 0 → ⊥) → n % 2 ≡ 1
odd-one n h = let b : n % 2 < 2 = mod-lt n (zero-lt-suc 1) in omega arith

-- where all the places from n on are zero
highest-ends : (u n d : ℕ) → n + d ≡ 128 → u % 2 ^ d ≡ 0 → (u % 2 ^ 128 ≡ 0 → ⊥) → Ends u (127 - highest u n)
unfolding highest coeff_of
highest-ends u zero d e z nz = absurd (nz (subst (λ (x : ℕ). u % 2 ^ x ≡ 0) (from_zero d e) z))
  where
    from_zero : (d : ℕ) → 0 + d ≡ 128 → d ≡ 128
    from_zero d e = omega arith
highest-ends u (suc n) d e z nz =
    pick (eqb (u / 2 ^ (127 - n) % 2) 0) refl (highest-ends u n (suc d) (down n d e))
  where
    down : (n d : ℕ) → suc n + d ≡ 128 → n + suc d ≡ 128
    down n d e = omega arith

    place : (n d : ℕ) → suc n + d ≡ 128 → 127 - n ≡ d
    place n d e = omega arith

    at : 127 - n ≡ d
    at = place n d e

    pick : (b : Bool) → eqb (u / 2 ^ (127 - n) % 2) 0 ≡ b
        → (u % 2 ^ suc d ≡ 0 → (u % 2 ^ 128 ≡ 0 → ⊥) → Ends u (127 - highest u n)) → Ends u (127 - cond b (highest u n) n)
    pick true t rec =
        rec (digit-more u d z ∙ ap (λ (x : ℕ). u / 2 ^ x % 2 * 2 ^ d) (sym at)
        ∙ ap (λ (x : ℕ). x * 2 ^ d) (eqb-true (u / 2 ^ (127 - n) % 2) 0 t) ∙ zero-mul (2 ^ d)) nz
    pick false t rec =
        subst (λ (x : ℕ). Ends u x) (sym at)
        (digit-more u d z ∙ ap (λ (x : ℕ). u / 2 ^ x % 2 * 2 ^ d) (sym at)
        ∙ ap (λ (x : ℕ). x * 2 ^ d) (odd-one (u / 2 ^ (127 - n)) (eqb-false (u / 2 ^ (127 - n) % 2) 0 t)) ∙ one-mul (2 ^ d))

-- a block that is not zero, of degree d, ends in a 1 and 127 - d zeros
pub degree-ends : (u z : ℕ) → u < 2 ^ 128 → u ≢ 0 → degree_of u + z ≡ 127 → Ends u z
unfolding degree_of
degree-ends u z l nz e =
    subst (λ (x : ℕ). Ends u x) (rest (highest u 128) z e)
    (highest-ends u 128 0 refl (mod-one u) (λ h. nz (sym (mod-eq_of_lt l) ∙ h)))
  where
    rest : (d z : ℕ) → d + z ≡ 127 → 127 - d ≡ z
    rest d z e = omega arith

-- the zeros that a degree leaves room for
room : (d : ℕ) → d ≤ 127 → d + (127 - d) ≡ 127
room d l = omega arith

pub degree-below : (u n : ℕ) → u < 2 ^ 128 → u ≢ 0 → u % 2 ^ n ≡ 0 → degree_of u + n ≤ 127
degree-below u n l nz z =
    fits (degree_of u) n (degree-le u) (ends-most u (127 - degree_of u) n (degree-ends u (127 - degree_of u) l nz (room (degree_of u) (degree-le u))) z)
  where
    fits : (d n : ℕ) → d ≤ 127 → n ≤ 127 - d → d + n ≤ 127
    fits d n l h = omega arith

pub degree-one : (u : ℕ) → u < 2 ^ 128 → u ≢ 0 → degree_of u ≡ 0 → u ≡ one
degree-one u l nz e = sym (mod-eq_of_lt l) ∙ degree-ends u 127 l nz (ap (λ (x : ℕ). x + 127) e)

-- number 12 is given for the zero block alone
pub degree-refused : (u : ℕ) → degree_refusal u ≢ 0 → u ≡ 0
degree-refused u n = pick (eqb u 0) refl n
  where
    pick : (b : Bool) → eqb u 0 ≡ b → ◌≢◌ {A = ℕ} (cond b 12 0) 0 → u ≡ 0
    pick true t n = eqb-true u 0 t
    pick false t n = absurd (n refl)

pub degree-given : (u : ℕ) → degree_refusal u ≡ 0 → u ≢ 0
degree-given u e z = never (sym (ap degree_refusal z) ∙ e)
  where
    never : degree_refusal 0 ≡ 0 → ⊥
    never e = omega arith

-- ---- x ^ k times a block

-- where no coefficient passes place 127
pub multiple-shifted : (v k : ℕ) → v % 2 ^ k ≡ 0 → v / 2 ^ k ≡ shifted v k
multiple-shifted v k e =
    sym (shifted_of-overflow reduction v k ∙ ap (λ (x : ℕ). bit_xor (v / 2 ^ k) (shifted x k)) e
    ∙ ap (bit_xor (v / 2 ^ k)) (shifted_of-zero reduction k) ∙ xor_zero_r (v / 2 ^ k))

product-multiple : (h t k : ℕ) → t % 2 ^ k ≡ 0 → product h (t / 2 ^ k) ≡ shifted (product h t) k
product-multiple h t k e = ap (product h) (multiple-shifted t k e) ∙ product_of-shifted 127 reduction h t k

-- a row is a factor s and the product a of h and s
pub row_cut : (h a s b t k : ℕ) → product h s ≡ a → product h t ≡ b → t % 2 ^ k ≡ 0 → b % 2 ^ k ≡ 0
    → product h (bit_xor s (t / 2 ^ k)) ≡ bit_xor a (b / 2 ^ k)
row_cut h a s b t k ea eb zt zb =
    product-xor-right h s (t / 2 ^ k)
    ∙ ap₂ bit_xor ea (product-multiple h t k zt ∙ ap (λ (x : ℕ). shifted x k) eb ∙ sym (multiple-shifted b k zb))

-- b of degree d - k, cut from a of degree d
module _ (a b k : ℕ) (ha : a < 2 ^ 128) (hb : b < 2 ^ 128) (na : a ≢ 0) (nb : b ≢ 0) (e : degree_of b + k ≡ degree_of a) where
  b-ends : Ends b (127 - degree_of a + k)
  b-ends = degree-ends b (127 - degree_of a + k) hb nb (both (degree_of b) (degree_of a) k e (degree-le a))
    where
      both : (e d k : ℕ) → e + k ≡ d → d ≤ 127 → e + (127 - d + k) ≡ 127
      both e d k q l = omega arith

  pub cut-multiple : b % 2 ^ k ≡ 0
  cut-multiple = zeros-less b (127 - degree_of a + k) k (more (127 - degree_of a) k) (ends-zeros b (127 - degree_of a + k) b-ends)
    where
      more : (z k : ℕ) → k ≤ z + k
      more z k = omega arith

  pub cut-degree : bit_xor a (b / 2 ^ k) ≢ 0 → degree_of (bit_xor a (b / 2 ^ k)) < degree_of a
  cut-degree nz =
      less (degree_of (bit_xor a (b / 2 ^ k))) (degree_of a) (degree-le a)
      (degree-below (bit_xor a (b / 2 ^ k)) (suc (127 - degree_of a)) (xor_lt 128 a (b / 2 ^ k) ha (lt_of_le_of_lt (shr_le b k) hb)) nz
      (ends-cancel a (b / 2 ^ k) (127 - degree_of a) (degree-ends a (127 - degree_of a) ha na (room (degree_of a) (degree-le a)))
      (ends-shift b (127 - degree_of a) k b-ends)))
    where
      less : (c d : ℕ) → d ≤ 127 → c + suc (127 - d) ≤ 127 → c < d
      less c d l h = omega arith

-- ---- the first two rows

pub one-zeros : (n : ℕ) → n ≤ 127 → one % 2 ^ n ≡ 0
one-zeros n l = zeros-less one 127 n l (mod_self one)

-- h with z zeros, of degree above 0: x ^ (z + 1) times h passes place 127 by one
pub row_first : (h z : ℕ) → h < 2 ^ 128 → z < 127 → h % 2 ^ z ≡ 0 → product h (one / 2 ^ suc z) ≡ times_x (h / 2 ^ z)
unfolding shifted_of
row_first h z l lz e =
    product-multiple h one (suc z) (one-zeros (suc z) lz)
    ∙ ap (λ (x : ℕ). shifted x (suc z)) (product-one-right h l)
    ∙ ap times_x (sym (multiple-shifted h z e))

pub one-ends : (z w : ℕ) → w + z ≡ 127 → Ends (one / 2 ^ z) w
one-ends z w e = ends-shift one w z (subst (λ (x : ℕ). Ends one x) (sym e) refl)
