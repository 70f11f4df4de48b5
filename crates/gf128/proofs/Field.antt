-- The laws of GHASH's field, for the crates above. A block is a number below 2 ^ 128.
-- Main results: `product-comm`, `product-assoc`, `product-one-left`, `product-one-right`, `product-xor-left`, `product-xor-right` (a
-- commutative ring), `inverse-product` (every block but zero has an inverse), `no-zero-divisors` and `product-cancel-right`.
-- Assumes nothing.
use mathlib.Core.Path.{◌≡◌, ap, ◌∙◌}
use mathlib.Core.Logic.{◌≢◌}
use Prim.Native.Nat.{ℕ, ◌^◌, ◌<◌}
use lib.Bits.{bit_xor, xor_lt, xor_self}
use lib.Dec.{lit<}
use Rattle.gf128.specs.Field.{product, reduction, one}
use Rattle.gf128.proofs.Xor.{xor-zero-eq}
use Rattle.gf128.proofs.Places.{reduction-lt, product_of-lt, product_of-zero-right, product_of-xor-left, product_of-xor-right}
use Rattle.gf128.proofs.Nibbles.{product_of-one-left}
use Rattle.gf128.proofs.Ring.{product_of-one-right, product_of-comm, product_of-assoc}
use Rattle.gf128.proofs.Frobenius.{squares-back, own-squares}
use Rattle.gf128.proofs.Inverse as Inverse

-- ---- bounds

pub one-lt : one < 2 ^ 128
one-lt = lit< tt

pub product_lt : (u h : ℕ) → h < 2 ^ 128 → product u h < 2 ^ 128
product_lt = product_of-lt 127 reduction reduction-lt

-- ---- a commutative ring, with xor as its sum

pub product-zero-right : (u : ℕ) → product u 0 ≡ 0
product-zero-right = product_of-zero-right 127 reduction

pub product-xor-left : (u v h : ℕ) → product (bit_xor u v) h ≡ bit_xor (product u h) (product v h)
product-xor-left = product_of-xor-left 127 reduction

pub product-xor-right : (u a b : ℕ) → product u (bit_xor a b) ≡ bit_xor (product u a) (product u b)
product-xor-right = product_of-xor-right 127 reduction

pub product-one-left : (h : ℕ) → product one h ≡ h
product-one-left = product_of-one-left 127 reduction

pub product-one-right : (u : ℕ) → u < 2 ^ 128 → product u one ≡ u
product-one-right = product_of-one-right 127 reduction reduction-lt

pub product-comm : (a b : ℕ) → a < 2 ^ 128 → b < 2 ^ 128 → product a b ≡ product b a
product-comm = product_of-comm 127 reduction reduction-lt

pub product-assoc : (a b c : ℕ) → b < 2 ^ 128 → c < 2 ^ 128 → product (product a b) c ≡ product a (product b c)
product-assoc = product_of-assoc 127 reduction reduction-lt

-- ---- a field

-- h to the power 2 ^ 128 - 2
unfoldable pub inverse_of : ℕ → ℕ
inverse_of h = Inverse.inverse_by 127 reduction 127 h

pub inverse-lt : (h : ℕ) → h < 2 ^ 128 → inverse_of h < 2 ^ 128
unfolding inverse_of
inverse-lt = Inverse.inverse-lt 127 reduction reduction-lt 127

pub inverse-product : (h : ℕ) → h < 2 ^ 128 → h ≢ 0 → product (inverse_of h) h ≡ one
unfolding inverse_of
inverse-product = Inverse.inverse-product 127 reduction reduction-lt 127 squares-back own-squares

pub no-zero-divisors : (a b : ℕ) → a < 2 ^ 128 → b < 2 ^ 128 → product a b ≡ 0 → a ≢ 0 → b ≡ 0
no-zero-divisors = Inverse.no-zero-divisors 127 reduction reduction-lt 127 squares-back own-squares

-- a factor that is not zero cancels
pub product-cancel-right : (a b h : ℕ) → a < 2 ^ 128 → b < 2 ^ 128 → h < 2 ^ 128 → h ≢ 0 → product a h ≡ product b h → a ≡ b
product-cancel-right a b h ha hb hh h0 e =
    xor-zero-eq a b
    (no-zero-divisors h (bit_xor a b) hh (xor_lt 128 a b ha hb)
    (product-comm h (bit_xor a b) hh (xor_lt 128 a b ha hb) ∙ product-xor-left a b h ∙ ap (λ (x : ℕ). bit_xor x (product b h)) e ∙ xor_self (product b h)) h0)
