-- The part that is open, Y and the open block: bytes pushed, in closed form, and in the order that the code takes them.
-- Main results: `pushed-part` (a push keeps the closed form), `closed-part` (the end pads it), `pushed-cut` and `pushed-gap`
-- (whole blocks are hashed as they stand), `pushed-zeros` (places not yet filled are zeros).
-- Assumes nothing.
use mathlib.Core.Path.{◌≡◌, refl, sym, ap, ap₂, ◌∙◌}
use mathlib.Core.Bool.{true, cond, ◌&&◌}
use mathlib.Core.List.{List, [], ◌∷◌, ◌++◌, append_assoc, append-nil}
use Prim.Native.Nat.{ℕ, zero, suc, ◌+◌, ◌*◌, ◌/◌, ◌%◌, ◌<◌, ◌≤◌}
use native.Mathlib.Nat.{zero-add, add-zero}
use native.Mathlib.Decide.{ℕ_discrete}
use native.Mathlib.Numerals.{add-one}
use native.Mathlib.Omega.{arith}
use borrow.Author.Tests.{eq-eqb, ne_eqb, eqb-true}
use lib.Dec.{eqb}
use lib.ListN.{length, get_or, set, drop, take, take-append-drop, replicate, length-append, length-set, get_or-eq_default}
use lib.Seq.{length-take-le, drop-cons, get_or-append_seam, ext_get_or, get_or-set_same, get_or-set_other, drop-drop, drop-set-lt}
use Rattle.gf128.specs.Bytes.{block_at}
use Rattle.gf128.specs.Hash.{next, over, blocks_from, blocks_of}
use Rattle.gf128.specs.Running.{Part, no_bytes, all_zero, push, pushed, closed}
use Rattle.octets.proofs.BigEndian.{be-same}
use Rattle.octets.proofs.Tests.{both}
use Rattle.gf128.proofs.Hash.{blocks-front, over-next}

abbrev pub part : ℕ → List ℕ → Part
part y b = record { y = y; block = b }

pub part_same : {y z : ℕ} {b c : List ℕ} → y ≡ z → b ≡ c → part y b ≡ part z c
part_same p q = λ i. part (p i) (q i)

-- ---- the cases of a push and of a close

pub push-full : (h n : ℕ) (p : Part) (b : ℕ) → n % 16 ≡ 15 → push h n p b ≡ part (next h p.y (block_at (set p.block 15 b) 0)) no_bytes
unfolding push
push-full h n p b e = rw (eq-eqb (n % 16) 15 e)

pub push-open : (h n : ℕ) (p : Part) (b : ℕ) → (n % 16 ≡ 15 → ⊥) → push h n p b ≡ part p.y (set p.block (n % 16) b)
unfolding push
push-open h n p b e = rw (ne_eqb (n % 16) 15 e)

pub closed-whole : (h n : ℕ) (p : Part) → n % 16 ≡ 0 → closed h n p ≡ p
unfolding closed
closed-whole h n p e = rw (eq-eqb (n % 16) 0 e)

pub closed-open : (h n : ℕ) (p : Part) → (n % 16 ≡ 0 → ⊥) → closed h n p ≡ part (next h p.y (block_at p.block 0)) no_bytes
unfolding closed
closed-open h n p e = rw (ne_eqb (n % 16) 0 e)

-- ---- bytes pushed in two parts; only the place in the block counts

pub pushed-append : (h : ℕ) (xs ys : List ℕ) (n : ℕ) (p : Part) → pushed h n p (xs ++ ys) ≡ pushed h (n + length xs) (pushed h n p xs) ys
unfolding pushed
pushed-append h [] ys n p = ap (λ (m : ℕ). pushed h m p ys) (sym (add-zero n))
pushed-append h (x ∷ xs) ys n p =
    let e : n + 1 + length xs ≡ n + suc (length xs) = omega arith in
    pushed-append h xs ys (n + 1) (push h n p x) ∙ ap (λ (m : ℕ). pushed h m (pushed h (n + 1) (push h n p x) xs) ys) e

-- the first of the bytes left
pub pushed-drop : (h : ℕ) (s : List ℕ) (i n : ℕ) (p : Part) → i < length s
    → pushed h n p (drop i s) ≡ pushed h (n + 1) (push h n p (get_or s i 0)) (drop (i + 1) s)
unfolding pushed
pushed-drop h s i n p l = ap (pushed h n p) (drop-cons s i 0 l) ∙ ap (λ (k : ℕ). pushed h (n + 1) (push h n p (get_or s i 0)) (drop k s)) (sym (add-one i))

pub pushed-mod : (h : ℕ) (xs : List ℕ) (m n : ℕ) (p : Part) → m % 16 ≡ n % 16 → pushed h m p xs ≡ pushed h n p xs
unfolding pushed push
pushed-mod h [] m n p e = refl
pushed-mod h (x ∷ xs) m n p e =
    let f : (m + 1) % 16 ≡ (n + 1) % 16 = omega arith in
    pushed-mod h xs (m + 1) (n + 1) (push h m p x) f
    ∙ ap (λ (k : ℕ). pushed h (n + 1) (cond (eqb k 15) (part (next h p.y (block_at (set p.block 15 x) 0)) no_bytes) (part p.y (set p.block k x))) xs) e

-- ---- the closed form of a part

-- n bytes of s from `at` on; zeros past the end
unfoldable pub bytes_at : List ℕ → ℕ → ℕ → List ℕ
bytes_at s at zero = []
bytes_at s at (suc n) = get_or s at 0 ∷ bytes_at s (at + 1) n

pub length-bytes_at : (n : ℕ) (s : List ℕ) (at : ℕ) → length (bytes_at s at n) ≡ n
unfolding bytes_at
length-bytes_at zero s at = refl
length-bytes_at (suc n) s at = ap suc (length-bytes_at n s (at + 1))

pub get_or-bytes_at : (n : ℕ) (s : List ℕ) (at k : ℕ) → k < n → get_or (bytes_at s at n) k 0 ≡ get_or s (at + k) 0
unfolding bytes_at
get_or-bytes_at zero s at k h = absurd (omega arith)
get_or-bytes_at (suc n) s at zero h = ap (λ (m : ℕ). get_or s m 0) (sym (add-zero at))
get_or-bytes_at (suc n) s at (suc k) h =
    let e : at + 1 + k ≡ at + suc k = omega arith in
    get_or-bytes_at n s (at + 1) k (omega arith) ∙ ap (λ (m : ℕ). get_or s m 0) e

bytes_at-end : (n : ℕ) (s : List ℕ) (at : ℕ) → length s ≤ at → bytes_at s at n ≡ replicate n 0
unfolding bytes_at
bytes_at-end zero s at h = refl
bytes_at-end (suc n) s at h =
    ap₂ {A = ℕ} {B = List ℕ} {C = List ℕ} (λ x xs. x ∷ xs) (get_or-eq_default s 0 h) (bytes_at-end n s (at + 1) (omega arith))

-- the bytes since the last whole block, then zeros
unfoldable pub open_at : List ℕ → List ℕ
open_at l = bytes_at l (16 * (length l / 16)) 16

-- Y over the whole blocks so far, and the open block
unfoldable pub part_at : ℕ → ℕ → List ℕ → Part
part_at h y l = record { y = over h y (blocks_from l 0 (length l / 16)); block = open_at l }

open-whole : (l : List ℕ) → length l % 16 ≡ 0 → open_at l ≡ no_bytes
unfolding open_at
open-whole l e = bytes_at-end 16 l (16 * (length l / 16)) (omega arith)

-- ---- a push keeps the closed form

get_or-snoc-other : (l : List ℕ) (b j : ℕ) → (j ≡ length l → ⊥) → get_or (l ++ b ∷ []) j 0 ≡ get_or l j 0
get_or-snoc-other [] b zero f = absurd (f refl)
get_or-snoc-other [] b (suc j) f = refl
get_or-snoc-other (x ∷ l) b zero f = refl
get_or-snoc-other (x ∷ l) b (suc j) f = get_or-snoc-other l b j (λ e. f (ap suc e))

get_or-open : (l : List ℕ) (k : ℕ) → k < 16 → get_or (open_at l) k 0 ≡ get_or l (16 * (length l / 16) + k) 0
unfolding open_at
get_or-open l k h = get_or-bytes_at 16 l (16 * (length l / 16)) k h

length-open : (l : List ℕ) → length (open_at l) ≡ 16
unfolding open_at
length-open l = length-bytes_at 16 l (16 * (length l / 16))

length-snoc : (l : List ℕ) (b : ℕ) → length (l ++ b ∷ []) ≡ length l + 1
length-snoc l b = length-append l (b ∷ [])

-- the open block with b at its place
get_or-placed : (l : List ℕ) (b k : ℕ) → k < 16 → get_or (set (open_at l) (length l % 16) b) k 0 ≡ get_or (l ++ b ∷ []) (16 * (length l / 16) + k) 0
get_or-placed l b k hk = go (ℕ_discrete k (length l % 16))
  where
    go : Dec (k ≡ length l % 16) → get_or (set (open_at l) (length l % 16) b) k 0 ≡ get_or (l ++ b ∷ []) (16 * (length l / 16) + k) 0
    go (yes e) =
        let at : 16 * (length l / 16) + k ≡ length l = omega arith in
        ap (λ (j : ℕ). get_or (set (open_at l) (length l % 16) b) j 0) e
        ∙ get_or-set_same (open_at l) (length l % 16) b 0 (omega (arith, length-open l))
        ∙ sym (ap (λ (j : ℕ). get_or (l ++ b ∷ []) j 0) at ∙ get_or-append_seam l b [] 0)
    go (no f) =
        get_or-set_other (open_at l) (length l % 16) k b 0 f
        ∙ get_or-open l k hk
        ∙ sym (get_or-snoc-other l b (16 * (length l / 16) + k) (λ e. f (omega arith)))

push-part : (h y : ℕ) (l : List ℕ) (b : ℕ) → push h (length l) (part_at h y l) b ≡ part_at h y (l ++ b ∷ [])
unfolding part_at
push-part h y l b = go (ℕ_discrete (length l % 16) 15)
  where
    front : over h y (blocks_from l 0 (length l / 16)) ≡ over h y (blocks_from (l ++ b ∷ []) 0 (length l / 16))
    front = ap (over h y) (sym (blocks-front (length l / 16) l (b ∷ []) (omega arith)))

    go : Dec (length l % 16 ≡ 15) → push h (length l) (part_at h y l) b ≡ part_at h y (l ++ b ∷ [])
    go (yes e) =
        let n : length (l ++ b ∷ []) / 16 ≡ length l / 16 + 1 = omega (arith, length-snoc l b) in
        push-full h (length l) (part_at h y l) b e
        ∙ part_same
        (ap₂ (next h) front
        (be-same 16 (set (open_at l) 15 b) (l ++ b ∷ []) 0 (16 * (length l / 16)) (λ k hk.
        rw zero-add (rw e at (get_or-placed l b k hk))))
        ∙ sym (ap (λ (m : ℕ). over h y (blocks_from (l ++ b ∷ []) 0 m)) n ∙ over-next h y (l ++ b ∷ []) (length l / 16)))
        (sym (open-whole (l ++ b ∷ []) (omega (arith, length-snoc l b))))
    go (no f) =
        let n : length (l ++ b ∷ []) / 16 ≡ length l / 16 = omega (arith, length-snoc l b) in
        push-open h (length l) (part_at h y l) b f
        ∙ part_same (front ∙ ap (λ (m : ℕ). over h y (blocks_from (l ++ b ∷ []) 0 m)) (sym n))
        (ext_get_or 0 (set (open_at l) (length l % 16) b) (open_at (l ++ b ∷ []))
        (length-set (open_at l) (length l % 16) b ∙ length-open l ∙ sym (length-open (l ++ b ∷ [])))
        (λ k hk.
        let small : k < 16 = omega (arith, length-set (open_at l) (length l % 16) b, length-open l) in
        get_or-placed l b k small ∙ ap (λ (m : ℕ). get_or (l ++ b ∷ []) (16 * m + k) 0) (sym n) ∙ sym (get_or-open (l ++ b ∷ []) k small)))

pub pushed-part : (h y : ℕ) (bs l : List ℕ) → pushed h (length l) (part_at h y l) bs ≡ part_at h y (l ++ bs)
unfolding pushed
pushed-part h y [] l = ap (part_at h y) (sym (append-nil l))
pushed-part h y (b ∷ bs) l =
    ap₂ (λ (n : ℕ) (p : Part). pushed h n p bs) (sym (length-snoc l b)) (push-part h y l b)
    ∙ pushed-part h y bs (l ++ b ∷ [])
    ∙ ap (part_at h y) (append_assoc l (b ∷ []) bs)

pub part-fresh : (h y : ℕ) → part_at h y [] ≡ part y no_bytes
unfolding part_at over blocks_from
part-fresh h y = part_same refl (open-whole [] refl)

-- from a block's start, with no byte open
pub pushed-fresh : (h n y : ℕ) (s : List ℕ) → n % 16 ≡ 0 → pushed h n (part y no_bytes) s ≡ part_at h y s
pushed-fresh h n y s e =
    pushed-mod h s n 0 (part y no_bytes) e ∙ ap (λ (p : Part). pushed h 0 p s) (sym (part-fresh h y)) ∙ pushed-part h y s []

-- whole blocks from a block's start are hashed as they stand
pub pushed_whole : (h n y : ℕ) (s : List ℕ) → n % 16 ≡ 0 → length s % 16 ≡ 0 → pushed h n (part y no_bytes) s ≡ part (over h y (blocks_of s)) no_bytes
unfolding part_at blocks_of
pushed_whole h n y s e w =
    let d : length s / 16 ≡ (length s + 15) / 16 = omega arith in
    pushed-fresh h n y s e ∙ part_same (ap (λ (m : ℕ). over h y (blocks_from s 0 m)) d) (open-whole s w)

-- from a block's start: whole blocks first, then the rest
pub pushed-cut : (h y : ℕ) (s : List ℕ) (w : ℕ) → w % 16 ≡ 0 → w ≤ length s
    → pushed h 0 (part y no_bytes) s ≡ pushed h 0 (part (over h y (blocks_of (take w s))) no_bytes) (drop w s)
pushed-cut h y s w m r =
    let n = length-take-le w s r in
    ap (pushed h 0 (part y no_bytes)) (sym (take-append-drop w s))
    ∙ pushed-append h (take w s) (drop w s) 0 (part y no_bytes)
    ∙ pushed-mod h (drop w s) (0 + length (take w s)) 0 (pushed h 0 (part y no_bytes) (take w s)) (omega arith)
    ∙ ap (λ (p : Part). pushed h 0 p (drop w s)) (pushed_whole h 0 y (take w s) refl (omega arith))

-- the end of a part pads it
pub closed-part : (h y : ℕ) (l : List ℕ) → closed h (length l) (part_at h y l) ≡ part (over h y (blocks_of l)) no_bytes
unfolding part_at blocks_of
closed-part h y l = go (ℕ_discrete (length l % 16) 0)
  where
    go : Dec (length l % 16 ≡ 0) → closed h (length l) (part_at h y l) ≡ part (over h y (blocks_from l 0 ((length l + 15) / 16))) no_bytes
    go (yes e) =
        let d : length l / 16 ≡ (length l + 15) / 16 = omega arith in
        closed-whole h (length l) (part_at h y l) e ∙ part_same (ap (λ (m : ℕ). over h y (blocks_from l 0 m)) d) (open-whole l e)
    go (no f) =
        let d : (length l + 15) / 16 ≡ length l / 16 + 1 = omega arith in
        closed-open h (length l) (part_at h y l) f
        ∙ part_same
        (ap (next h (over h y (blocks_from l 0 (length l / 16))))
        (be-same 16 (open_at l) l 0 (16 * (length l / 16)) (λ k hk. rw zero-add (get_or-open l k hk)))
        ∙ sym (ap (λ (m : ℕ). over h y (blocks_from l 0 m)) d ∙ over-next h y l (length l / 16)))
        refl

-- ---- open bytes that are zeros

pub zeros-all : (l : List ℕ) → all_zero l ≡ true → l ≡ replicate (length l) 0
zeros-all [] z = refl
zeros-all (b ∷ bs) z =
    let t = both (eqb b 0) (all_zero bs) z in
    ap₂ {A = ℕ} {B = List ℕ} {C = List ℕ} (λ x xs. x ∷ xs) (eqb-true b 0 t.0) (zeros-all bs t.1)

-- one byte more
pub zeros-step : (l : List ℕ) (i : ℕ) → all_zero (drop i l) ≡ (eqb (get_or l i 0) 0 && all_zero (drop (i + 1) l))
zeros-step [] zero = refl
zeros-step [] (suc i) = rw (add-one (suc i))
zeros-step (b ∷ bs) zero = refl
zeros-step (b ∷ bs) (suc i) = rw (add-one (suc i)) (rw (add-one i) at (zeros-step bs i))

pub zeros-drop : (n : ℕ) (l : List ℕ) → all_zero l ≡ true → all_zero (drop n l) ≡ true
zeros-drop zero l z = z
zeros-drop (suc n) [] z = refl
zeros-drop (suc n) (b ∷ bs) z = zeros-drop n bs (both (eqb b 0) (all_zero bs) z).1

push-zeros : (h n : ℕ) (p : Part) (b : ℕ) → all_zero (drop (n % 16) p.block) ≡ true → all_zero (drop ((n + 1) % 16) (push h n p b).block) ≡ true
push-zeros h n p b z = go (ℕ_discrete (n % 16) 15)
  where
    go : Dec (n % 16 ≡ 15) → all_zero (drop ((n + 1) % 16) (push h n p b).block) ≡ true
    go (yes e) = rw (push-full h n p b e) (zeros-drop ((n + 1) % 16) no_bytes refl)
    go (no f) =
        let d : (n + 1) % 16 ≡ n % 16 + 1 = omega arith in
        rw (push-open h n p b f, d, drop-set-lt (n % 16 + 1) p.block (n % 16) b (omega arith), ← drop-drop 1 (n % 16) p.block)
        (zeros-drop 1 (drop (n % 16) p.block) z)

pub pushed-zeros : (h : ℕ) (bs : List ℕ) (n : ℕ) (p : Part) → all_zero (drop (n % 16) p.block) ≡ true
    → all_zero (drop ((n + length bs) % 16) (pushed h n p bs).block) ≡ true
unfolding pushed
pushed-zeros h [] n p z = rw add-zero z
pushed-zeros h (b ∷ bs) n p z =
    let e : n + 1 + length bs ≡ n + suc (length bs) = omega arith in
    rw (← e) (pushed-zeros h bs (n + 1) (push h n p b) (push-zeros h n p b z))

-- first up to the end of the open block, where q has g bytes of the s
pub pushed-gap : (h n : ℕ) (p q : Part) (s : List ℕ) (g : ℕ) → all_zero (drop (n % 16) p.block) ≡ true → (n + g) % 16 ≡ 0 → g ≤ length s
    → length q.block ≡ 16 → q ≡ pushed h (n % 16) p (take g s) → pushed h n p s ≡ pushed h 0 (part q.y no_bytes) (drop g s)
pushed-gap h n p q s g z m r l e =
    let t = length-take-le g s r in
    let f : q ≡ pushed h n p (take g s) = e ∙ pushed-mod h (take g s) (n % 16) n p (omega arith) in
    let a : (n + length (take g s)) % 16 ≡ 0 = omega arith in
    let d : all_zero q.block ≡ true = rw f (rw a at (pushed-zeros h (take g s) n p z)) in
    let o : q.block ≡ no_bytes = zeros-all q.block d ∙ ap (λ (k : ℕ). replicate k 0) l in
    ap (pushed h n p) (sym (take-append-drop g s))
    ∙ pushed-append h (take g s) (drop g s) n p
    ∙ pushed-mod h (drop g s) (n + length (take g s)) 0 (pushed h n p (take g s)) a
    ∙ ap (λ (x : Part). pushed h 0 x (drop g s)) (sym f ∙ part_same refl o)

pub closed-zeros : (h n : ℕ) (p : Part) → all_zero (drop (n % 16) p.block) ≡ true → all_zero (closed h n p).block ≡ true
closed-zeros h n p z = go (ℕ_discrete (n % 16) 0)
  where
    go : Dec (n % 16 ≡ 0) → all_zero (closed h n p).block ≡ true
    go (yes e) = rw (closed-whole h n p e) (rw e at z)
    go (no f) = rw (closed-open h n p f)
