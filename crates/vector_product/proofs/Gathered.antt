-- The loop over b's pieces: how the products of a's even and odd pieces with each of them are gathered into two numbers (`turn`), and
-- that the pieces are b's bytes (`piece_read`).
-- Assumes nothing.
use Rattle.std.proofs.Common.{◌≡◌, ℕ, zero, suc, ◌+◌, ◌-◌, ◌*◌, ◌/◌, ◌%◌, ◌^◌, ◌<◌, bit_xor, get_or, refl, sym, ap, ap₂, ◌∙◌, add-zero, zero-add, add_comm, add-one, shr_lt, arith}
use Rattle.std.proofs.Math.Nat.{div-one, mod-mod, pow-suc}
use Rattle.std.proofs.lemmas.Nat.{pow-add, shl-shr, shr-shr, xor_comm}
use Rattle.std.specs.Int.{byte_at, bytes_low_first}
use Rattle.std.specs.Int.Bits.{xor_shifted}
use Rattle.gf128.proofs.Halves.{shl-shl, shl-mod, high-xor, halves-moved, moved-lt}
use Rattle.gf128.proofs.Xor.{xor_assoc, xor-swap4, xor-shl}
use Rattle.vector_product.specs.Pieces.{piece, clmul8, sum, sum_of_products, lanes, even_products}
use Rattle.vector_product.proofs.FromPieces.{placed}
use Rattle.vector_product.proofs.Lanes.{lanes-eq}

-- numbers with even places in one word, those with odd places in another
interleaved : (n : ℕ) (f : ℕ → ℕ)
    → bit_xor (lanes n (λ k. f (2 * k))) (lanes n (λ k. f (2 * k + 1)) * 2 ^ 8) ≡ sum (2 * n) (λ i. f i * 2 ^ (8 * i))
unfolding sum
interleaved zero f = refl
interleaved (suc n) f =
    ap (bit_xor (bit_xor even (f (2 * n) * 2 ^ (16 * n)))) (xor-shl odd (f (2 * n + 1) * 2 ^ (16 * n)) 8)
    ∙ xor-swap4 even (f (2 * n) * 2 ^ (16 * n)) (odd * 2 ^ 8) (f (2 * n + 1) * 2 ^ (16 * n) * 2 ^ 8)
    ∙ ap₂ bit_xor (interleaved n f) (ap₂ bit_xor (ap (λ (k : ℕ). f (2 * n) * 2 ^ k) (omega arith)) above)
    ∙ sym (xor_assoc (sum (2 * n) (λ i. f i * 2 ^ (8 * i))) (f (2 * n) * 2 ^ (8 * (2 * n))) (f (suc (2 * n)) * 2 ^ (8 * suc (2 * n))))
    ∙ ap (λ (m : ℕ). sum m (λ i. f i * 2 ^ (8 * i))) twice
  where
    even : ℕ
    even = lanes n (λ k. f (2 * k))

    odd : ℕ
    odd = lanes n (λ k. f (2 * k + 1))

    twice : suc (suc (2 * n)) ≡ 2 * suc n
    twice = omega arith

    place : 16 * n + 8 ≡ 8 * suc (2 * n)
    place = omega arith

    above : f (2 * n + 1) * 2 ^ (16 * n) * 2 ^ 8 ≡ f (suc (2 * n)) * 2 ^ (8 * suc (2 * n))
    above =
        sym (shl-shl (f (2 * n + 1)) (16 * n) 8) ∙ ap₂ (λ (i k : ℕ). f i * 2 ^ k) (add-one (2 * n)) place

-- the odd pieces are the even ones of the number moved down by 8
row : (a q : ℕ) → bit_xor (even_products a q) (even_products (a / 2 ^ 8) q * 2 ^ 8) ≡ sum 8 (λ i. clmul8 (piece i a) q * 2 ^ (8 * i))
row a q =
    ap (λ (x : ℕ). bit_xor (even_products a q) (x * 2 ^ 8))
    (lanes-eq 4 (λ k.
    ap (λ (x : ℕ). clmul8 (x % 2 ^ 8) q) (shr-shr a 8 (8 * (2 * k)) ∙ ap (λ (n : ℕ). a / 2 ^ n) (omega arith))))
    ∙ interleaved 4 (λ i. clmul8 (piece i a) q)

-- the bytes of a number are its pieces
bits_of : (i : ℕ) → 256 ^ i ≡ 2 ^ (8 * i)
bits_of zero = refl
bits_of (suc i) =
    let next : 8 * i + 8 ≡ 8 * suc i = omega arith in
    pow-suc 256 i ∙ ap (λ x. x * 2 ^ 8) (bits_of i) ∙ sym (pow-add 2 (8 * i) 8) ∙ ap (λ k. 2 ^ k) next

byte_piece : (i n : ℕ) → byte_at i n ≡ piece i n
byte_piece zero n = ap (λ x. x % 2 ^ 8) (sym (div-one n))
byte_piece (suc i) n = ap (λ x. n / x % 2 ^ 8) (bits_of (suc i))

byte_in : (k i j n : ℕ) → j < k → get_or (bytes_low_first i k n) j 0 ≡ piece (i + j) n
byte_in zero i j n h = absurd (omega arith)
byte_in (suc k) i zero n h = byte_piece i n ∙ ap (λ x. piece x n) (sym (add-zero i))
byte_in (suc k) i (suc j) n h = byte_in k (suc i) j n (omega arith) ∙ ap (λ x. piece x n) (omega arith)

pub piece_read : (b j : ℕ) → j < 8 → get_or (bytes_low_first 0 8 b) j 0 % 2 ^ 8 ≡ piece j b
piece_read b j h = ap (λ x. x % 2 ^ 8) (byte_in 8 0 j b h ∙ ap (λ x. piece x b) (zero-add j)) ∙ mod-mod (b / 2 ^ (8 * j)) (2 ^ 8)

-- r is a sum held 8 + d places up. It gains e at place 8·j and o one piece higher, and comes down by 8: what leaves the upper number
-- goes to the lower
module _ (j d r e o top low : ℕ) (place : 8 * j + d ≡ 56) (below : low < 2 ^ 64) (held : top * 2 ^ 64 + low ≡ r * 2 ^ (d + 8)) where
  abbrev gained : ℕ
  gained = bit_xor top e

  abbrev lower : ℕ
  lower = low / 2 ^ 8 + gained % 2 ^ 8 * 2 ^ 56

  comes_down : gained / 2 ^ 8 * 2 ^ 64 + lower ≡ bit_xor (r * 2 ^ d) (e * 2 ^ 56)
  comes_down =
      sym (halves-moved 56 8 gained low)
      ∙ ap (λ x. x / 2 ^ 8)
      (high-xor 64 top e low below ∙ ap₂ bit_xor (held ∙ shl-shl r d 8) (shl-shl e 56 8) ∙ sym (xor-shl (r * 2 ^ d) (e * 2 ^ 56) 8))
      ∙ shl-shr (bit_xor (r * 2 ^ d) (e * 2 ^ 56)) 8

  lower-is : bit_xor (low / 2 ^ 8) (gained * 2 ^ 56 % 2 ^ 64) ≡ lower
  lower-is =
      ap (bit_xor (low / 2 ^ 8)) (shl-mod gained 8 56)
      ∙ xor_comm (low / 2 ^ 8) (gained % 2 ^ 8 * 2 ^ 56)
      ∙ xor_shifted (gained % 2 ^ 8) 56 (low / 2 ^ 8) (shr_lt 56 8 below)
      ∙ add_comm (gained % 2 ^ 8 * 2 ^ 56) (low / 2 ^ 8)

  gathered : bit_xor (gained / 2 ^ 8) o * 2 ^ 64 + bit_xor (low / 2 ^ 8) (gained * 2 ^ 56 % 2 ^ 64)
      ≡ bit_xor r (bit_xor e (o * 2 ^ 8) * 2 ^ (8 * j)) * 2 ^ d
  gathered =
      let added = bit_xor e (o * 2 ^ 8) in
      ap (λ x. bit_xor (gained / 2 ^ 8) o * 2 ^ 64 + x) lower-is
      ∙ high-xor 64 (gained / 2 ^ 8) o lower (moved-lt 56 8 gained low below)
      ∙ ap₂ bit_xor comes_down (shl-shl o 8 56)
      ∙ xor_assoc (r * 2 ^ d) (e * 2 ^ 56) (o * 2 ^ 8 * 2 ^ 56)
      ∙ ap (bit_xor (r * 2 ^ d))
      (sym (xor-shl e (o * 2 ^ 8) 56) ∙ ap (λ k. added * 2 ^ k) (sym place) ∙ shl-shl added (8 * j) d)
      ∙ sym (xor-shl r (added * 2 ^ (8 * j)) d)

-- a turn: the sum of the products with b's first j pieces gains those with the next piece
pub turn : (a b j top low e o : ℕ) → j < 8 → low < 2 ^ 64
    → e ≡ even_products a (piece j b) → o ≡ even_products (a / 2 ^ 8) (piece j b)
    → top * 2 ^ 64 + low ≡ sum_of_products 8 j a b * 2 ^ (64 - 8 * j)
    → bit_xor (bit_xor top e / 2 ^ 8) o * 2 ^ 64 + bit_xor (low / 2 ^ 8) (bit_xor top e * 2 ^ 56 % 2 ^ 64)
    ≡ sum_of_products 8 (j + 1) a b * 2 ^ (64 - 8 * (j + 1))
unfolding sum
turn a b j top low e o h below he ho held =
    let here : 8 * j + (56 - 8 * j) ≡ 56 = omega arith in
    let before : 64 - 8 * j ≡ 56 - 8 * j + 8 = omega arith in
    let after : 56 - 8 * j ≡ 64 - 8 * (j + 1) = omega arith in
    gathered j (56 - 8 * j) r e o top low here below (held ∙ ap (λ k. r * 2 ^ k) before)
    ∙ ap₂ (λ x k. bit_xor r x * 2 ^ k)
    (ap (λ x. x * 2 ^ (8 * j)) (ap₂ (λ x y. bit_xor x (y * 2 ^ 8)) he ho ∙ row a (piece j b)) ∙ placed 8 a (piece j b) j)
    after
    ∙ ap (λ n. sum_of_products 8 n a b * 2 ^ (64 - 8 * (j + 1))) (sym (add-one j))
  where
    r : ℕ
    r = sum_of_products 8 j a b
