-- Bits in the other order. Main results: `multiplied-is-product` (the pseudocode's loop of 128 turns, with its shift, 0x87 and conditional
-- xor, is document 01's product of the bits in the other order), `brev8-read` (an element group with the bits of each byte reversed is its
-- block with all bits in the other order), `write-brev8` (and so it is written).
-- Assumes nothing.
use Rattle.std.proofs.Common.{cond, List, ◌≡◌, refl, sym, ap, ap₂, subst, ◌∙◌, ℕ, zero, suc, ◌+◌, ◌-◌, ◌*◌, ◌/◌, ◌%◌, ◌^◌, ◌<◌, ◌≤◌, add-zero, add-suc, add_assoc, add-mul, zero-mul, one-mul, mul-one, mul_assoc, zero-lt-suc, lt_of_lt_of_le, le_of_eq, pow-suc, mod-lt, div-one, mod-eq_of_lt, zero-add, add_comm, add-one, one-add, arith, eqb, get_or, set, pow_pos, shl_lt, shr-shr}
use native.Mathlib.Nat.{pow-succ', one-le-pow, mod-one, div-eq_of_lt}
use lib.Arith.{digits_lt, digits_div, digits_mod, mod-mul}
use lib.Bits.{bit_xor, xor_block, xor_shr, xor_mod, xor_zero_r}
use lib.Pow.{field, mod-mod-pow}
use lib.Seq.{sets}
use Rattle.octets.specs.BigEndian.{be_at, be_bytes}
use Rattle.octets.specs.Bytes.{AreBytes}
use Rattle.gf128.specs.Field.{coeff_of, times_x_of, shifted_of, sum_of, product_of, product, reduction}
use Rattle.octets.proofs.BigEndian.{be_at-split, be_at-lt, sets-split, bytes_bits}
use Rattle.gf128.proofs.Halves.{shl-shl}
use Rattle.gf128.proofs.Places.{digit-ind, digit-map, mod2-lt, coeff_of-lt, shifted_of-lt, reduction-lt}
use Rattle.gf128.proofs.Xor.{xor-half, xor-odd}
use Rattle.octets.specs.LittleEndian.{read_le, write_le}
use Rattle.theorems.specs.Pseudocode.{◌!◌, bit_to_bool, ◌xor◌, shl, turns, reversed, brev8_of, ZH, multiplied}

-- ---- loops

-- if each turn leads from one state to the next, so do n
pub turns-states : {A : Type 0} (body : ℕ → A → A) (state : ℕ → A) (past : ℕ) → ((i : ℕ) → i < past → body i (state i) ≡ state (suc i))
    → (n i : ℕ) → i + n ≤ past → turns body n i (state i) ≡ state (i + n)
unfolding turns
turns-states body state past step zero i h = ap state (sym (add-zero i))
turns-states body state past step (suc n) i h =
    ap (turns body n (i + 1)) (step i (omega arith) ∙ ap state (sym (add-one i)))
    ∙ turns-states body state past step n (i + 1) (omega arith)
    ∙ ap state (let e : i + 1 + n ≡ i + suc n = omega arith in e)

-- a number xored in if a digit is 1 is that number taken by the digit
pub if-bit : (d a p : ℕ) → d < 2 → cond (eqb d 1) (bit_xor a p) a ≡ bit_xor a (d * p)
if-bit d a p h =
    digit-ind (λ d. cond (eqb d 1) (bit_xor a p) a ≡ bit_xor a (d * p)) (sym (ap (bit_xor a) (zero-mul p) ∙ xor_zero_r a))
    (sym (ap (bit_xor a) (one-mul p))) d h

-- ---- the low n bits in the other order

pub reversed-lt : (n x : ℕ) → reversed n x < 2 ^ n
unfolding reversed
reversed-lt zero x = zero-lt-suc 0
reversed-lt (suc n) x = lt_of_lt_of_le (digits_lt (mod2-lt x) (reversed-lt n (x / 2))) (le_of_eq (sym (pow-succ' 2 n)))

reversed-zero : (n : ℕ) → reversed n 0 ≡ 0
unfolding reversed
reversed-zero zero = refl
reversed-zero (suc n) = ap₂ (λ (x y : ℕ). x + y) (zero-mul (2 ^ n)) (reversed-zero n)

pub reversed-xor : (n x y : ℕ) → reversed n (bit_xor x y) ≡ bit_xor (reversed n x) (reversed n y)
unfolding reversed
reversed-xor zero x y = refl
reversed-xor (suc n) x y =
    ap₂ (λ (d r : ℕ). d * 2 ^ n + r) (xor-odd x y) (ap (reversed n) (xor-half x y) ∙ reversed-xor n (x / 2) (y / 2))
    ∙ sym (xor_block n (x % 2) (y % 2) (reversed n (x / 2)) (reversed n (y / 2)) (reversed-lt n (x / 2)) (reversed-lt n (y / 2)))

-- higher bits do not matter
reversed-mod : (n x : ℕ) → reversed n (x % 2 ^ n) ≡ reversed n x
unfolding reversed
reversed-mod zero x = refl
reversed-mod (suc n) x =
    ap₂ (λ (d r : ℕ). d * 2 ^ n + r) (ap (λ (k : ℕ). x % 2 ^ k % 2) (sym (add-one n)) ∙ mod-mod-pow x n 1)
    (ap (reversed n) (ap (λ (k : ℕ). x % 2 ^ k / 2) (sym (add-one n)) ∙ field x n 1) ∙ reversed-mod n (x / 2))

-- the low b bits come first, then the a above them
reversed-split : (a b x : ℕ) → reversed (a + b) x ≡ reversed b x * 2 ^ a + reversed a (x / 2 ^ b)
unfolding reversed
reversed-split a zero x =
    ap (λ (n : ℕ). reversed n x) (add-zero a)
    ∙ sym (ap₂ (λ (y z : ℕ). y + reversed a z) (zero-mul (2 ^ a)) (div-one x) ∙ zero-add (reversed a x))
reversed-split a (suc b) x =
    ap (λ (n : ℕ). reversed n x) (add-suc a b)
    ∙ ap (λ (r : ℕ). x % 2 * 2 ^ (a + b) + r) (reversed-split a b (x / 2))
    ∙ sym (add_assoc (x % 2 * 2 ^ (a + b)) (reversed b (x / 2) * 2 ^ a) (reversed a (x / 2 / 2 ^ b)))
    ∙ ap₂ (λ (y z : ℕ). y + reversed a z)
    (ap (λ (p : ℕ). p + reversed b (x / 2) * 2 ^ a)
    (ap (λ (k : ℕ). x % 2 * 2 ^ k) (add_comm a b) ∙ shl-shl (x % 2) b a)
    ∙ sym (add-mul (x % 2 * 2 ^ b) (reversed b (x / 2)) (2 ^ a)))
    (shr-shr x 1 b ∙ ap (λ (k : ℕ). x / 2 ^ k) (one-add b))

-- a number in two parts, the low one of b bits
reversed-join : (a b q r : ℕ) → r < 2 ^ b → reversed (a + b) (q * 2 ^ b + r) ≡ reversed b r * 2 ^ a + reversed a q
reversed-join a b q r h =
    reversed-split a b (q * 2 ^ b + r)
    ∙ ap₂ (λ (x y : ℕ). x * 2 ^ a + reversed a y) (sym (reversed-mod b (q * 2 ^ b + r)) ∙ ap (reversed b) (digits_mod q h)) (digits_div q h)

reversed-one : (x : ℕ) → reversed 1 x ≡ x % 2
unfolding reversed
reversed-one x = add-zero (x % 2 * 1) ∙ mul-one (x % 2)

-- the last bit of suc n comes first
reversed-first : (n x : ℕ) → reversed (suc n) x ≡ reversed n x * 2 + x / 2 ^ n % 2
reversed-first n x =
    ap (λ (k : ℕ). reversed k x) (sym (one-add n)) ∙ reversed-split 1 n x ∙ ap (λ (d : ℕ). reversed n x * 2 + d) (reversed-one (x / 2 ^ n))

pub reversed-twice : (n x : ℕ) → reversed n (reversed n x) ≡ x % 2 ^ n
unfolding reversed
reversed-twice zero x = sym (mod-one x)
reversed-twice (suc n) x =
    ap (λ (k : ℕ). reversed k (reversed (suc n) x)) (sym (one-add n))
    ∙ reversed-join 1 n (x % 2) (reversed n (x / 2)) (reversed-lt n (x / 2))
    ∙ ap₂ (λ (p q : ℕ). p * 2 + q) (reversed-twice n (x / 2)) (reversed-one (x % 2) ∙ mod-eq_of_lt (mod2-lt x))
    ∙ sym (ap (λ (k : ℕ). x % k) (pow-suc 2 n) ∙ mod-mul x (pow_pos n) (zero-lt-suc 1))

-- bit k is the bit with as many above it as k has below it
reversed-bit : (k d x : ℕ) → reversed (k + suc d) x ! k ≡ x ! d
reversed-bit k d x =
    ap (λ (y : ℕ). y / 2 ^ k % 2) (reversed-split k (suc d) x)
    ∙ ap (λ (y : ℕ). y % 2) (digits_div (reversed (suc d) x) (reversed-lt k (x / 2 ^ suc d)) ∙ reversed-first d x)
    ∙ digits_mod (reversed d x) (mod2-lt (x / 2 ^ d))

-- ---- the product, over the last place m, document 01's constant R and the pseudocode's polynomial P

-- the loop's turn
abbrev bit_of : ℕ → ℕ → ℕ → ℕ → ZH → ZH
bit_of m P S bit v = record {
  «Z» = cond (bit_to_bool (S ! bit)) (v.«Z» xor v.«H») v.«Z»;
  «H» = cond (bit_to_bool (v.«H» ! m)) (shl (suc m) v.«H» 1 xor P) (shl (suc m) v.«H» 1);
}

module _ (m R P : ℕ) (hR : R < 2 ^ suc m) (other : reversed (suc m) R ≡ P) where
  top : (v : ℕ) → reversed (suc m) v ! m ≡ v % 2
  unfolding reversed
  top v = ap (λ (x : ℕ). x % 2) (digits_div (v % 2) (reversed-lt m (v / 2))) ∙ mod-eq_of_lt (mod2-lt v)

  shifted-left : (v : ℕ) → shl (suc m) (reversed (suc m) v) 1 ≡ reversed m (v / 2) * 2
  unfolding reversed
  shifted-left v =
      ap (λ (x : ℕ). x % 2 ^ suc m)
      (add-mul (v % 2 * 2 ^ m) (reversed m (v / 2)) 2
      ∙ ap (λ (x : ℕ). x + reversed m (v / 2) * 2) (mul_assoc (v % 2) (2 ^ m) 2 ∙ ap (λ (x : ℕ). v % 2 * x) (sym (pow-suc 2 m))))
      ∙ digits_mod (v % 2) (subst (λ (k : ℕ). reversed m (v / 2) * 2 < 2 ^ k) (add-one m) (shl_lt m 1 (reversed-lt m (v / 2))))

  half : (v : ℕ) → v < 2 ^ suc m → reversed (suc m) (v / 2) ≡ reversed m (v / 2) * 2
  half v h =
      reversed-first m (v / 2)
      ∙ ap (λ (x : ℕ). reversed m (v / 2) * 2 + x % 2) (shr-shr v 1 m ∙ ap (λ (k : ℕ). v / 2 ^ k) (one-add m) ∙ div-eq_of_lt h)
      ∙ add-zero (reversed m (v / 2) * 2)

  -- the shift with its reduction is document 01's times x
  shift : (v : ℕ) → v < 2 ^ suc m
      → cond (bit_to_bool (reversed (suc m) v ! m)) (shl (suc m) (reversed (suc m) v) 1 xor P) (shl (suc m) (reversed (suc m) v) 1) ≡ reversed (suc m) (times_x_of R v)
  unfolding times_x_of
  shift v h =
      ap₂ (λ (d x : ℕ). cond (eqb d 1) (bit_xor x P) x) (top v) (shifted-left v)
      ∙ if-bit (v % 2) (reversed m (v / 2) * 2) P (mod2-lt v)
      ∙ sym (reversed-xor (suc m) (v / 2) (v % 2 * R)
      ∙ ap₂ bit_xor (half v h) (digit-map (reversed (suc m)) (reversed-zero (suc m)) (v % 2) R (mod2-lt v) ∙ ap (λ (x : ℕ). v % 2 * x) other))

  module _ (u h : ℕ) (hh : h < 2 ^ suc m) where
    abbrev state : ℕ → ZH
    state k = record { «Z» = reversed (suc m) (sum_of m R u h k); «H» = reversed (suc m) (shifted_of R h k) }

    place : (k : ℕ) → k < suc m → reversed (suc m) u ! k ≡ coeff_of m u k
    unfolding coeff_of
    place k l =
        let e : suc m ≡ k + suc (m - k) = omega arith in
        ap (λ (n : ℕ). reversed n u ! k) e ∙ reversed-bit k (m - k) u

    turn : (k : ℕ) → k < suc m → bit_of m P (reversed (suc m) u) k (state k) ≡ state (suc k)
    unfolding sum_of shifted_of
    turn k l =
        ap₂ (λ (z x : ℕ). record { «Z» = z; «H» = x })
        (ap (λ (d : ℕ). cond (eqb d 1) (bit_xor (state k).«Z» (state k).«H») (state k).«Z») (place k l)
        ∙ if-bit (coeff_of m u k) (state k).«Z» (state k).«H» (coeff_of-lt m u k)
        ∙ sym (reversed-xor (suc m) (sum_of m R u h k) (coeff_of m u k * shifted_of R h k)
        ∙ ap (bit_xor (state k).«Z») (digit-map (reversed (suc m)) (reversed-zero (suc m)) (coeff_of m u k) (shifted_of R h k) (coeff_of-lt m u k))))
        (shift (shifted_of R h k) (shifted_of-lt m R hR h k hh))

    loop : (turns (bit_of m P (reversed (suc m) u)) (suc m) 0 (record { «Z» = 0; «H» = reversed (suc m) h })).«Z» ≡ reversed (suc m) (product_of m R u h)
    unfolding product_of sum_of shifted_of
    loop =
        ap (λ (z : ℕ). (turns (bit_of m P (reversed (suc m) u)) (suc m) 0 (record { «Z» = z; «H» = reversed (suc m) h })).«Z») (sym (reversed-zero (suc m)))
        ∙ ap (λ (v : ZH). v.«Z») (turns-states (bit_of m P (reversed (suc m) u)) state (suc m) turn (suc m) 0 (le_of_eq (zero-add (suc m))))
        ∙ ap (λ (k : ℕ). (state k).«Z») (zero-add (suc m))

-- GHASH's: the loop on two values with their bits in the other order
pub multiplied-is-product : (u h : ℕ) → h < 2 ^ 128 → multiplied (reversed 128 u) (reversed 128 h) ≡ reversed 128 (product u h)
unfolding multiplied reversed
multiplied-is-product u h hh = loop 127 reduction 0x87 reduction-lt refl u h hh

-- ---- element groups and blocks

pub brev8-xor : (n x y : ℕ) → brev8_of n (bit_xor x y) ≡ bit_xor (brev8_of n x) (brev8_of n y)
unfolding brev8_of
brev8-xor zero x y = refl
brev8-xor (suc n) x y =
    ap₂ (λ (q r : ℕ). q * 256 + r) (ap (brev8_of n) (xor_shr x y 8) ∙ brev8-xor n (x / 256) (y / 256))
    (ap (reversed 8) (xor_mod x y 8) ∙ reversed-xor 8 (x % 256) (y % 256))
    ∙ sym (xor_block 8 (brev8_of n (x / 256)) (brev8_of n (y / 256)) (reversed 8 (x % 256)) (reversed 8 (y % 256)) (reversed-lt 8 (x % 256)) (reversed-lt 8 (y % 256)))

pub brev8-twice : (n x : ℕ) → brev8_of n (brev8_of n x) ≡ x % 256 ^ n
unfolding brev8_of
brev8-twice zero x = sym (mod-one x)
brev8-twice (suc n) x =
    let low = reversed-lt 8 (x % 256) in
    ap₂ (λ (q r : ℕ). brev8_of n q * 256 + reversed 8 r) (digits_div (brev8_of n (x / 256)) low) (digits_mod (brev8_of n (x / 256)) low)
    ∙ ap₂ (λ (q r : ℕ). q * 256 + r) (brev8-twice n (x / 256)) (reversed-twice 8 (x % 256) ∙ mod-eq_of_lt (mod-lt x (zero-lt-suc 255)))
    ∙ sym (ap (λ (k : ℕ). x % k) (pow-suc 256 n) ∙ mod-mul x (one-le-pow n 256 (zero-lt-suc 255)) (zero-lt-suc 255))

eight-more : (n : ℕ) → 8 * suc n ≡ 8 + 8 * n
eight-more n = omega arith

pub brev8-read : (g : List ℕ) → AreBytes g → (at n : ℕ) → brev8_of n (read_le g at n) ≡ reversed (8 * n) (be_at g at n)
unfolding brev8_of read_le be_at reversed
brev8-read g b at zero = refl
brev8-read g b at (suc n) =
    ap₂ (λ (q r : ℕ). brev8_of n q * 256 + reversed 8 r) (digits_div (read_le g (at + 1) n) (b at)) (digits_mod (read_le g (at + 1) n) (b at))
    ∙ ap (λ (q : ℕ). q * 256 + reversed 8 (get_or g at 0)) (brev8-read g b (at + 1) n)
    ∙ sym (ap₂ reversed (eight-more n) (ap (be_at g at) (sym (one-add n)) ∙ be_at-split g at 1 n ∙ ap₂ (λ (x y : ℕ). x * y + be_at g (at + 1) n) first (bytes_bits n))
    ∙ reversed-join 8 (8 * n) (get_or g at 0) (be_at g (at + 1) n) (subst (λ (x : ℕ). be_at g (at + 1) n < x) (bytes_bits n) (be_at-lt g b (at + 1) n)))
  where
    first : be_at g at 1 ≡ get_or g at 0
    first = zero-add (get_or g (at + 0) 0) ∙ ap (λ (p : ℕ). get_or g p 0) (add-zero at)

pub write-brev8 : (n : ℕ) (g : List ℕ) (at v : ℕ) → write_le n g at (brev8_of n (reversed (8 * n) v)) ≡ sets g at (be_bytes n v)
unfolding brev8_of write_le be_bytes
write-brev8 zero g at v = refl
write-brev8 (suc n) g at v =
    ap (write_le (suc n) g at) whole
    ∙ ap₂ (λ (r q : ℕ). write_le n (set g at r) (at + 1) q) (digits_mod rest small) (digits_div rest small)
    ∙ write-brev8 n (set g at (v / 256 ^ n % 256)) (at + 1) v
    ∙ sets-split g at 1 n v
    ∙ ap (λ (k : ℕ). sets g at (be_bytes k v)) (one-add n)
  where
    rest : ℕ
    rest = brev8_of n (reversed (8 * n) v)

    small : v / 256 ^ n % 256 < 256
    small = mod-lt (v / 256 ^ n) (zero-lt-suc 255)

    parts : reversed (8 * suc n) v ≡ reversed (8 * n) v * 256 + reversed 8 (v / 256 ^ n)
    parts =
        ap (λ (k : ℕ). reversed k v) (eight-more n) ∙ reversed-split 8 (8 * n) v
        ∙ ap (λ (x : ℕ). reversed (8 * n) v * 256 + reversed 8 (v / x)) (sym (bytes_bits n))

    whole : brev8_of (suc n) (reversed (8 * suc n) v) ≡ rest * 256 + v / 256 ^ n % 256
    whole =
        ap (brev8_of (suc n)) parts
        ∙ ap₂ (λ (q r : ℕ). brev8_of n q * 256 + reversed 8 r)
        (digits_div (reversed (8 * n) v) (reversed-lt 8 (v / 256 ^ n))) (digits_mod (reversed (8 * n) v) (reversed-lt 8 (v / 256 ^ n)))
        ∙ ap (λ (r : ℕ). rest * 256 + r) (reversed-twice 8 (v / 256 ^ n))
