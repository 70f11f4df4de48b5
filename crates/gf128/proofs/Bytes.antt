-- Blocks and their bytes: a block that was written is read again, and what a write leaves; each coefficient is a bit of a byte.
-- Main results: `block_at-put_block`, `put_block-other`, `coefficients-are-bits`.
-- Assumes nothing.
use mathlib.Core.Path.{◌≡◌, refl, sym, ap, ◌∙◌}
use mathlib.Core.List.{List}
use Prim.Native.Nat.{ℕ, suc, ◌+◌, ◌-◌, ◌*◌, ◌/◌, ◌%◌, ◌^◌, ◌≤◌, ◌<◌}
use native.Mathlib.Nat.{mod-eq_of_lt}
use native.Mathlib.Numerals.{add-one}
use native.Mathlib.Omega.{arith}
use lib.ListN.{length, get_or}
use lib.Seq.{sets, length-sets}
use lib.Pow.{shr-shr, field, mod-mod-pow}
use lib.Dec.{leb}
use borrow.Author.Tests.{le-leb}
use mathlib.Core.Bool.{Bool, true, false, cond}
use Rattle.octets.specs.BigEndian.{be_at}
use Rattle.octets.proofs.BigEndian.{be_at-byte, be_at-sets, bytes_bits, length-be_bytes}
use Rattle.octets.proofs.Stores.{sets-other}
use Rattle.gf128.specs.Bytes.{block_at, block_bytes, put_block}
use Rattle.gf128.specs.Field.{coeff_of}
use Rattle.gf128.specs.Places.{CoefficientsAreBits}

pub block_at-put_block : (s : List ℕ) (at v : ℕ) → at + 16 ≤ length s → v < 256 ^ 16 → block_at (put_block s at v) at ≡ v
block_at-put_block s at v h b = rw (le-leb (at + 16) (length s) h) (be_at-sets s at 16 v h ∙ mod-eq_of_lt b)

pub length-put_block : (s : List ℕ) (at v : ℕ) → length (put_block s at v) ≡ length s
length-put_block s at v = go (leb (at + 16) (length s))
  where
    go : (t : Bool) → length (cond t (sets s at (block_bytes v)) s) ≡ length s
    go true = length-sets s at (block_bytes v)
    go false = refl

pub put_block-other : (s : List ℕ) (at v p : ℕ) → ((at ≤ p) × (p < at + 16) → ⊥) → get_or (put_block s at v) p 0 ≡ get_or s p 0
put_block-other s at v p h = go (leb (at + 16) (length s))
  where
    go : (t : Bool) → get_or (cond t (sets s at (block_bytes v)) s) p 0 ≡ get_or s p 0
    go true = sets-other s at (block_bytes v) p (λ w. let e = length-be_bytes 16 v in h (omega arith, omega arith))
    go false = refl

-- ---- a coefficient in document 01's words: bit 7-(k mod 8) of byte k div 8

-- a digit below the eighth is one of the low byte
low_bit : (x e j : ℕ) → x % 2 ^ (suc e + j) / 2 ^ j % 2 ≡ x / 2 ^ j % 2
low_bit x e j =
    ap (λ (y : ℕ). y % 2) (field x (suc e) j ∙ ap (λ (y : ℕ). x / 2 ^ j % 2 ^ y) (sym (add-one e))) ∙ mod-mod-pow (x / 2 ^ j) e 1

pub coefficients-are-bits : CoefficientsAreBits
unfolding coeff_of
coefficients-are-bits s h at k l =
    let i = k / 8 in
    let d = 15 - i in
    let j = 7 - k % 8 in
    let u = be_at s at 16 in
    let place : 127 - k ≡ 8 * d + j = omega arith in
    let all : suc i + d ≡ 16 = omega arith in
    let eight : suc (7 - j) + j ≡ 8 = omega arith in
    ap (λ (x : ℕ). u / 2 ^ x % 2) place
    ∙ ap (λ (x : ℕ). x % 2) (sym (shr-shr u (8 * d) j) ∙ ap (λ (x : ℕ). u / x / 2 ^ j) (sym (bytes_bits d)))
    ∙ sym (low_bit (u / 256 ^ d) (7 - j) j)
    ∙ ap (λ (x : ℕ). u / 256 ^ d % 2 ^ x / 2 ^ j % 2) eight
    ∙ ap (λ (x : ℕ). x / 2 ^ j % 2) (ap (λ (x : ℕ). be_at s at x / 256 ^ d % 256) (sym all) ∙ be_at-byte s h at i d)
