-- Laws of blocks read from lists, and of the partial hash over blocks in parts.
-- Main results: `over-append`, `over-next` (one more block), `blocks_of-append` (a list cut at a whole block),
-- `ghash-parts` (the hash over A, then C, then the lengths).
-- Assumes nothing.
use mathlib.Core.Path.{◌≡◌, refl, sym, ap, ap₂, ◌∙◌}
use mathlib.Core.List.{List, [], ◌∷◌, ◌++◌}
use Prim.Native.Nat.{ℕ, zero, suc, ◌+◌, ◌*◌, ◌/◌, ◌%◌, ◌<◌, ◌≤◌}
use native.Mathlib.Nat.{zero-add, add-zero}
use native.Mathlib.Omega.{arith}
use lib.ListN.{length, get_or, length-append, get_or-append}
use lib.Seq.{get_or-append-add}
use Rattle.octets.proofs.BigEndian.{be-same}
use Rattle.gf128.specs.Bytes.{block_at}
use Rattle.gf128.specs.Hash.{next, over, blocks_from, blocks_of, length_block, message_of, ghash}

-- ---- bytes that agree

-- n blocks whose bytes agree are the same
pub blocks-same : (n : ℕ) (s t : List ℕ) (i j : ℕ) → ((k : ℕ) → k < 16 * n → get_or s (16 * i + k) 0 ≡ get_or t (16 * j + k) 0)
    → blocks_from s i n ≡ blocks_from t j n
unfolding blocks_from
blocks-same zero s t i j e = refl
blocks-same (suc n) s t i j e =
    ap₂ {A = ℕ} {B = List ℕ} {C = List ℕ} (λ x xs. x ∷ xs)
    (be-same 16 s t (16 * i) (16 * j) (λ k h. e k (omega arith)))
    (blocks-same n s t (i + 1) (j + 1) (λ k h. at_more k i s ∙ e (16 + k) (omega arith) ∙ sym (at_more k j t)))
  where
    at_more : (k i : ℕ) (s : List ℕ) → get_or s (16 * (i + 1) + k) 0 ≡ get_or s (16 * i + (16 + k)) 0
    at_more k i s =
        let e : 16 * (i + 1) + k ≡ 16 * i + (16 + k) = omega arith in
        ap (λ (m : ℕ). get_or s m 0) e

-- ---- blocks in parts

pub blocks-split : (m n : ℕ) (s : List ℕ) (i : ℕ) → blocks_from s i (m + n) ≡ blocks_from s i m ++ blocks_from s (i + m) n
unfolding blocks_from
blocks-split zero n s i = rw (zero-add, add-zero)
blocks-split (suc m) n s i =
    let e : suc m + n ≡ suc (m + n) = omega arith in
    let f : i + 1 + m ≡ i + suc m = omega arith in
    ap (blocks_from s i) e
    ∙ ap {A = List ℕ} {B = List ℕ} (λ xs. block_at s (16 * i) ∷ xs)
    (blocks-split m n s (i + 1) ∙ ap (λ (j : ℕ). blocks_from s (i + 1) m ++ blocks_from s j n) f)

pub over-append : (h y : ℕ) (xs ys : List ℕ) → over h y (xs ++ ys) ≡ over h (over h y xs) ys
unfolding over
over-append h y [] ys = refl
over-append h y (x ∷ xs) ys = over-append h (next h y x) xs ys

-- one more block of s
pub over-next : (h y : ℕ) (s : List ℕ) (n : ℕ) → over h y (blocks_from s 0 (n + 1)) ≡ next h (over h y (blocks_from s 0 n)) (block_at s (16 * n))
unfolding blocks_from over
over-next h y s n =
    ap (over h y) (blocks-split n 1 s 0)
    ∙ over-append h y (blocks_from s 0 n) (blocks_from s (0 + n) 1)
    ∙ ap (λ (i : ℕ). next h (over h y (blocks_from s 0 n)) (block_at s (16 * i))) (zero-add n)

-- blocks of a list that goes on
pub blocks-front : (n : ℕ) (s t : List ℕ) → 16 * n ≤ length s → blocks_from (s ++ t) 0 n ≡ blocks_from s 0 n
blocks-front n s t h = blocks-same n (s ++ t) s 0 0 (λ k l. get_or-append s t 0 (16 * 0 + k) (omega arith))

-- a list cut at a whole block
pub blocks_of-append : (s t : List ℕ) → length s % 16 ≡ 0 → blocks_of (s ++ t) ≡ blocks_of s ++ blocks_of t
unfolding blocks_of
blocks_of-append s t e =
    let q : ℕ = length s / 16 in
    let n : ℕ = (length t + 15) / 16 in
    let d : (length s + length t + 15) / 16 ≡ q + n = omega arith in
    let f : (length s + 15) / 16 ≡ q = omega arith in
    let w : 16 * q ≡ length s = omega arith in
    ap (λ (l : ℕ). blocks_from (s ++ t) 0 ((l + 15) / 16)) (length-append s t)
    ∙ ap (blocks_from (s ++ t) 0) d
    ∙ blocks-split q n (s ++ t) 0
    ∙ ap₂ {A = List ℕ} {B = List ℕ} {C = List ℕ} (λ x y. x ++ y)
    (blocks-front q s t (omega arith) ∙ ap (blocks_from s 0) (sym f))
    (blocks-same n (s ++ t) t (0 + q) 0 (λ k l.
    let a : 16 * (0 + q) + k ≡ length s + k = omega arith in
    ap (λ (m : ℕ). get_or (s ++ t) m 0) a ∙ get_or-append-add s t k 0 ∙ ap (λ (m : ℕ). get_or t m 0) (sym (zero-add k))))

pub blocks_of-empty : blocks_of [] ≡ []
unfolding blocks_of blocks_from
blocks_of-empty = refl

-- the hash of a whole message, part by part
pub ghash-parts : (h : ℕ) (a c : List ℕ)
    → ghash h a c ≡ next h (over h (over h 0 (blocks_of a)) (blocks_of c)) (length_block (length a) (length c))
unfolding ghash message_of over
ghash-parts h a c =
    over-append h 0 (blocks_of a) (blocks_of c ++ (length_block (length a) (length c) ∷ []))
    ∙ over-append h (over h 0 (blocks_of a)) (blocks_of c) (length_block (length a) (length c) ∷ [])
