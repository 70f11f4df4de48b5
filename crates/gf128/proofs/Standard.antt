-- Document 01's product and hash are those of SP 800-38D. Main results: `standard-product`, `standard-hash`, `standard-call`.
-- Assumes nothing.
use mathlib.Core.Path.{◌≡◌, refl, sym, ap, ap₂, ◌∙◌}
use mathlib.Core.Bool.{cond}
use mathlib.Core.List.{List, [], ◌∷◌, ◌++◌, append_assoc}
use Prim.Native.Nat.{ℕ, zero, suc, ◌+◌, ◌-◌, ◌*◌, ◌/◌, ◌%◌, ◌^◌, ◌<◌}
use native.Mathlib.Nat.{zero-mul, one-mul, zero-add, mod-eq_of_lt}
use native.Mathlib.Omega.{arith}
use borrow.Author.Tests.{eq-eqb, le-ltb}
use lib.Arith.{digits_lt, digits_div, digits_mod}
use lib.Bits.{bit_xor, xor_zero_r}
use lib.Dec.{eqb}
use lib.ListN.{length, get_or, take, drop, replicate, length-append, length-replicate}
use lib.Seq.{get_or-take, get_or-drop}
use Rattle.octets.specs.BigEndian.{be_bytes}
use Rattle.gf128.specs.Bytes.{block_at}
use Rattle.gf128.specs.Field.{coeff_of, times_x_of, shifted_of, sum_of, product_of, product, reduction}
use Rattle.gf128.specs.Hash.{next, over, blocks_from, blocks_of, length_block, message_of, ghash, limit}
use Rattle.gf128.specs.Standard.{Blocks, next_blocks, blocks_after, algorithm1, len, cut_into, hashed, algorithm2, bits_to_pad, padding, length_field, string_of, StandardProduct, StandardHash, StandardCall}
use Rattle.octets.proofs.BigEndian.{be-same, length-be_bytes, be_bytes-split, be_bytes-mod, be_at-be_bytes}
use Rattle.gf128.proofs.Hash.{blocks-same, blocks_of-append}
use Rattle.gf128.proofs.Places.{digit-ind, mod2-lt}

-- ---- algorithm 1

-- a choice by a digit is a scaled sum
chosen : (z v d : ℕ) → d < 2 → cond (eqb d 0) z (bit_xor z v) ≡ bit_xor z (d * v)
chosen z v d h =
    digit-ind (λ d. cond (eqb d 0) z (bit_xor z v) ≡ bit_xor z (d * v))
    (sym (ap (bit_xor z) (zero-mul v) ∙ xor_zero_r z))
    (ap (bit_xor z) (sym (one-mul v)))
    d h

blocks : ℕ → ℕ → Blocks
blocks z v = record { z = z; v = v }

-- after i steps
blocks-are : (X Y i : ℕ) → blocks_after X Y i ≡ blocks (sum_of 127 reduction X Y i) (shifted_of reduction Y i)
unfolding blocks_after blocks sum_of shifted_of times_x_of coeff_of
blocks-are X Y zero = refl
blocks-are X Y (suc i) =
    let z = sum_of 127 reduction X Y i in
    let v = shifted_of reduction Y i in
    let x = X / 2 ^ (127 - i) in
    ap (λ (b : Blocks). next_blocks (x % 2) b) (blocks-are X Y i)
    ∙ ap₂ blocks (chosen z v (x % 2) (mod2-lt x)) (chosen (v / 2) reduction (v % 2) (mod2-lt v))

pub standard-product : StandardProduct
unfolding algorithm1 product_of blocks
standard-product X Y = ap (λ (b : Blocks). b.z) (blocks-are X Y 128)

-- ---- algorithm 2

-- blocks cut off the front are the blocks at their places
cut-blocks : (m : ℕ) (X : List ℕ) → cut_into m X ≡ blocks_from X 0 m
unfolding cut_into blocks_from
cut-blocks zero X = refl
cut-blocks (suc m) X =
    ap₂ {A = ℕ} {B = List ℕ} {C = List ℕ} (λ x xs. x ∷ xs)
    (be-same 16 (take 16 X) X 0 0 (λ k h. rw zero-add (get_or-take 16 X k 0 h)))
    (cut-blocks m (drop 16 X) ∙ blocks-same m (drop 16 X) X 0 1 (λ k h. rw zero-add (get_or-drop 16 X k 0)))

hashed-over : (H Y : ℕ) (Xs : List ℕ) → hashed H Y Xs ≡ over H Y Xs
unfolding hashed over next
hashed-over H Y [] = refl
hashed-over H Y (X ∷ Xs) =
    ap (λ (v : ℕ). hashed H v Xs) (standard-product (bit_xor Y X) H) ∙ hashed-over H (product (bit_xor Y X) H) Xs

-- a string of whole blocks
whole : (H : ℕ) (X : List ℕ) → length X % 16 ≡ 0 → algorithm2 H X ≡ over H 0 (blocks_of X)
unfolding algorithm2 blocks_of
whole H X e =
    let m : len X / 128 ≡ (length X + 15) / 16 = omega arith in
    hashed-over H 0 (cut_into (len X / 128) X) ∙ ap (over H 0) (cut-blocks (len X / 128) X ∙ ap (blocks_from X 0) m)

-- ---- the string that is hashed

zeros-after : (s : List ℕ) (n k : ℕ) → get_or (s ++ replicate n 0) k 0 ≡ get_or s k 0
zeros-after [] zero k = refl
zeros-after [] (suc n) zero = refl
zeros-after [] (suc n) (suc k) = zeros-after [] n k
zeros-after (x ∷ s) n zero = refl
zeros-after (x ∷ s) n (suc k) = zeros-after s n k

length-padded : (s : List ℕ) → length (s ++ padding s) ≡ 16 * ((length s + 15) / 16)
unfolding padding
length-padded s =
    let q : (8 * length s + 127) / 128 ≡ (length s + 15) / 16 = omega arith in
    let bits : bits_to_pad s ≡ 8 * (16 * ((length s + 15) / 16) - length s) = omega arith in
    let bytes : bits_to_pad s / 8 ≡ 16 * ((length s + 15) / 16) - length s = omega arith in
    length-append s (padding s) ∙ ap (λ (k : ℕ). length s + k) (length-replicate (bits_to_pad s / 8) 0 ∙ bytes) ∙ omega arith

-- the zeros add no block
blocks-padded : (s : List ℕ) → blocks_of (s ++ padding s) ≡ blocks_of s
unfolding blocks_of padding
blocks-padded s =
    let e = length-padded s in
    let m : (length (s ++ padding s) + 15) / 16 ≡ (length s + 15) / 16 = omega arith in
    ap (blocks_from (s ++ padding s) 0) m
    ∙ blocks-same ((length s + 15) / 16) (s ++ padding s) s 0 0 (λ k h. zeros-after s (bits_to_pad s / 8) (16 * 0 + k))

-- both length fields are the length block
field-block : (a c : ℕ) → c < 256 ^ 8 → be_bytes 8 a ++ be_bytes 8 c ≡ be_bytes 16 (a * 256 ^ 8 + c)
field-block a c h =
    ap₂ {A = List ℕ} {B = List ℕ} {C = List ℕ} (λ x y. x ++ y)
    (ap (be_bytes 8) (sym (digits_div a h)))
    (ap (be_bytes 8) (sym (digits_mod a h)) ∙ be_bytes-mod 8 (a * 256 ^ 8 + c))
    ∙ sym (be_bytes-split 8 8 (a * 256 ^ 8 + c))

fields : (A C : List ℕ) → len A < 2 ^ 64 → len C < 2 ^ 64 → blocks_of (length_field A ++ length_field C) ≡ length_block (length A) (length C) ∷ []
unfolding blocks_of blocks_from length_block
fields A C ha hc =
    let v = len A * 256 ^ 8 + len C in
    ap blocks_of (field-block (len A) (len C) hc)
    ∙ ap (λ (n : ℕ). blocks_from (be_bytes 16 v) 0 ((n + 15) / 16)) (length-be_bytes 16 v)
    ∙ ap (λ (x : ℕ). x ∷ []) (be_at-be_bytes 16 v ∙ mod-eq_of_lt (digits_lt ha hc))

pub standard-hash : StandardHash
unfolding string_of ghash message_of
standard-hash H A C ha hc =
    let a = A ++ padding A in
    let c = C ++ padding C in
    let f = length_field A ++ length_field C in
    let la = length-padded A in
    let lc = length-padded C in
    let cut : string_of A C ≡ a ++ (c ++ f) =
    sym (append_assoc A (padding A) (c ++ f) ∙ ap (λ (x : List ℕ). A ++ (padding A ++ x)) (append_assoc C (padding C) f)) in
    let lf : length f ≡ 16 = length-append (length_field A) (length_field C) ∙ ap₂ (λ (m n : ℕ). m + n) (length-be_bytes 8 (len A)) (length-be_bytes 8 (len C)) in
    let all = length-append a (c ++ f) in
    let rest = length-append c f in
    ap (algorithm2 H) cut
    ∙ whole H (a ++ (c ++ f)) (omega arith)
    ∙ ap (over H 0)
    (blocks_of-append a (c ++ f) (omega arith)
    ∙ ap₂ {A = List ℕ} {B = List ℕ} {C = List ℕ} (λ x y. x ++ y) (blocks-padded A)
    (blocks_of-append c f (omega arith)
    ∙ ap₂ {A = List ℕ} {B = List ℕ} {C = List ℕ} (λ x y. x ++ y) (blocks-padded C) (fields A C ha hc)))

pub standard-call : StandardCall
standard-call key A C k a c =
    rw (eq-eqb (length key) 16 k, le-ltb limit (length A) a, le-ltb limit (length C) c)
    (sym (standard-hash (block_at key 0) A C (omega arith) (omega arith)))
