-- Numbers and their bytes, the lowest first: a read and a write by one more byte, past the end, their bounds, a write read again, and the
-- bytes of a number read, and of a read number.
-- Main results: `read-lt`, `read_le-byte`, `le_same`, `read_le-same`, `write_le-other`, `write_le-read`, `write_le-bytes`, `write_le-sets`, `read-le_bytes`,
-- `le_bytes-read`.
-- Assumes nothing.
use Rattle.std.proofs.Common.{◌≡◌, refl, sym, ap, ap₂, subst, ◌∙◌, List, [], ◌∷◌, ◌++◌, ℕ, zero, suc, ◌+◌, ◌-◌, ◌*◌, ◌/◌, ◌%◌, ◌^◌, ◌<◌, ◌≤◌, zero-lt-suc, lt_of_lt_of_le, lt_of_not-le, le_of_eq, mod-lt, pow-suc, div-one, add-zero, zero-add, suc-add, add-one, arith, length, get_or, set, take, drop, length-set, get_or-set_same, get_or-set_other, get_or-append-add, drop-cons}
use native.Mathlib.Decide.{dec_le, ℕ_discrete}
use native.Mathlib.Nat.{pow-succ', mod-one, div-div-eq-div-mul}
use lib.Arith.{digits_lt, digits_div, digits_mod}
use lib.ListN.{get_or-eq_default}
use lib.Seq.{sets, set_out}
use Rattle.octets.specs.Bytes.{AreBytes}
use Rattle.octets.specs.LittleEndian.{read_le, write_le, le_bytes}
use Rattle.octets.proofs.BigEndian.{last_byte}

-- ---- past the end

pub read_past : (s : List ℕ) (at n : ℕ) → length s ≤ at → read_le s at n ≡ 0
unfolding read_le
read_past s at zero h = refl
read_past s at (suc n) h =
    ap₂ (λ (x y : ℕ). x * 256 + y) (read_past s (at + 1) n (omega arith)) (get_or-eq_default s 0 h)

pub write-past : (n : ℕ) (s : List ℕ) (at v : ℕ) → length s ≤ at → write_le n s at v ≡ s
unfolding write_le
write-past zero s at v h = refl
write-past (suc n) s at v h =
    ap (λ (f : List ℕ). write_le n f (at + 1) (v / 256)) (set_out s at (v % 256) h) ∙ write-past n s (at + 1) (v / 256) (omega arith)

-- ---- one more byte

pub read_more : (s : List ℕ) (at n j : ℕ) → j < n
    → read_le s (at + j) (n - j) ≡ read_le s (at + (j + 1)) (n - (j + 1)) * 256 + get_or s (at + j) 0
unfolding read_le
read_more s at n j h =
    let e : n - j ≡ suc (n - (j + 1)) = omega arith in
    let next : at + j + 1 ≡ at + (j + 1) = omega arith in
    ap (λ (k : ℕ). read_le s (at + j) k) e
    ∙ ap (λ (p : ℕ). read_le s p (n - (j + 1)) * 256 + get_or s (at + j) 0) next

pub write-more : (s : List ℕ) (at n j v : ℕ) → j < n
    → write_le (n - j) s (at + j) v ≡ write_le (n - (j + 1)) (set s (at + j) (v % 256)) (at + (j + 1)) (v / 256)
unfolding write_le
write-more s at n j v h =
    let e : n - j ≡ suc (n - (j + 1)) = omega arith in
    let next : at + j + 1 ≡ at + (j + 1) = omega arith in
    ap (λ (k : ℕ). write_le k s (at + j) v) e
    ∙ ap (λ (p : ℕ). write_le (n - (j + 1)) (set s (at + j) (v % 256)) p (v / 256)) next

-- ---- bounds

pub read-lt : (s : List ℕ) (at n : ℕ) → AreBytes s → read_le s at n < 256 ^ n
unfolding read_le
read-lt s at zero b = zero-lt-suc 0
read-lt s at (suc n) b =
    lt_of_lt_of_le (digits_lt (read-lt s (at + 1) n b) (b at)) (le_of_eq (sym (pow-suc 256 n)))

-- byte i, where d bytes follow it
pub read_le-byte : (s : List ℕ) → AreBytes s → (at i d : ℕ) → read_le s at (i + suc d) / 256 ^ i % 256 ≡ get_or s (at + i) 0
unfolding read_le
read_le-byte s b at zero d =
    ap (λ (n : ℕ). read_le s at n / 1 % 256) (zero-add (suc d))
    ∙ ap (λ (v : ℕ). v % 256) (div-one (read_le s at (suc d)))
    ∙ digits_mod (read_le s (at + 1) d) (b at)
    ∙ sym (ap (λ (p : ℕ). get_or s p 0) (add-zero at))
read_le-byte s b at (suc i) d =
    let later = read_le s (at + 1) (i + suc d) in
    let next : at + 1 + i ≡ at + suc i = omega arith in
    ap (λ (n : ℕ). read_le s at n / 256 ^ suc i % 256) (suc-add i (suc d))
    ∙ ap (λ (v : ℕ). (later * 256 + get_or s at 0) / v % 256) (pow-succ' 256 i)
    ∙ ap (λ (v : ℕ). v % 256) (sym (div-div-eq-div-mul (later * 256 + get_or s at 0) 256 (256 ^ i)))
    ∙ ap (λ (v : ℕ). v / 256 ^ i % 256) (digits_div later (b at))
    ∙ read_le-byte s b (at + 1) i d
    ∙ ap (λ (p : ℕ). get_or s p 0) next

-- ---- what is read, and what a write changes

-- n bytes that agree are one number
pub le_same : (n : ℕ) (s t : List ℕ) (a b : ℕ) → ((k : ℕ) → k < n → get_or s (a + k) 0 ≡ get_or t (b + k) 0) → read_le s a n ≡ read_le t b n
unfolding read_le
le_same zero s t a b e = refl
le_same (suc n) s t a b e =
    ap₂ (λ (x y : ℕ). x * 256 + y)
    (le_same n s t (a + 1) (b + 1) (λ k h.
    let p : a + 1 + k ≡ a + (k + 1) = omega arith in
    let q : b + 1 + k ≡ b + (k + 1) = omega arith in
    rw (p, q) (e (k + 1) (omega arith))))
    (sym (ap (λ (p : ℕ). get_or s p 0) (add-zero a)) ∙ e 0 (omega arith) ∙ ap (λ (q : ℕ). get_or t q 0) (add-zero b))

pub read_le-same : (g h : List ℕ) (at n : ℕ) → ((p : ℕ) → (at ≤ p) × (p < at + n) → get_or g p 0 ≡ get_or h p 0) → read_le g at n ≡ read_le h at n
read_le-same g h at n e = le_same n g h at at (λ k l. e (at + k) (omega arith, omega arith))

pub write_le-length : (n : ℕ) (s : List ℕ) (at v : ℕ) → length (write_le n s at v) ≡ length s
unfolding write_le
write_le-length zero s at v = refl
write_le-length (suc n) s at v = write_le-length n (set s at (v % 256)) (at + 1) (v / 256) ∙ length-set s at (v % 256)

pub write_le-other : (n : ℕ) (s : List ℕ) (at v p : ℕ) → ((at ≤ p) × (p < at + n) → ⊥) → get_or (write_le n s at v) p 0 ≡ get_or s p 0
unfolding write_le
write_le-other zero s at v p h = refl
write_le-other (suc n) s at v p h =
    write_le-other n (set s at (v % 256)) (at + 1) (v / 256) p (λ w. h (omega arith, omega arith))
    ∙ get_or-set_other s at p (v % 256) 0 (λ e. h (omega arith, omega arith))

pub write_le-read : (n : ℕ) (s : List ℕ) (at v : ℕ) → at + n ≤ length s → read_le (write_le n s at v) at n ≡ v % 256 ^ n
unfolding read_le write_le
write_le-read zero s at v h = sym (mod-one v)
write_le-read (suc n) s at v h =
    let rest = set s at (v % 256) in
    let room = length-set s at (v % 256) in
    ap₂ (λ (x y : ℕ). x * 256 + y) (write_le-read n rest (at + 1) (v / 256) (omega arith))
    (write_le-other n rest (at + 1) (v / 256) at (λ w. omega arith) ∙ get_or-set_same s at (v % 256) 0 (omega arith))
    ∙ sym (last_byte n v)

-- bytes stay bytes
pub set-bytes : (g : List ℕ) (i b : ℕ) → b < 256 → AreBytes g → AreBytes (set g i b)
set-bytes g i b hb h p = go (ℕ_discrete p i) (dec_le (length g) i)
  where
    go : Dec (p ≡ i) → Dec (length g ≤ i) → get_or (set g i b) p 0 < 256
    go (no n) d = subst (λ (v : ℕ). v < 256) (sym (get_or-set_other g i p b 0 n)) (h p)
    go (yes e) (yes l) = subst (λ (f : List ℕ). get_or f p 0 < 256) (sym (set_out g i b l)) (h p)
    go (yes e) (no n) =
        subst (λ (q : ℕ). get_or (set g i b) q 0 < 256) (sym e) (subst (λ (v : ℕ). v < 256) (sym (get_or-set_same g i b 0 (lt_of_not-le n))) hb)

pub write_le-bytes : (n : ℕ) (g : List ℕ) (at v : ℕ) → AreBytes g → AreBytes (write_le n g at v)
unfolding write_le
write_le-bytes zero g at v h = h
write_le-bytes (suc n) g at v h =
    write_le-bytes n (set g at (v % 256)) (at + 1) (v / 256) (set-bytes g at (v % 256) (mod-lt v (zero-lt-suc 255)) h)

-- ---- the bytes of a number

pub length-le_bytes : (n v : ℕ) → length (le_bytes n v) ≡ n
unfolding le_bytes
length-le_bytes zero v = refl
length-le_bytes (suc n) v = ap suc (length-le_bytes n (v / 256))

-- a write puts them there
pub write_le-sets : (n : ℕ) (s : List ℕ) (at v : ℕ) → write_le n s at v ≡ sets s at (le_bytes n v)
unfolding write_le le_bytes
write_le-sets zero s at v = refl
write_le-sets (suc n) s at v =
    write_le-sets n (set s at (v % 256)) (at + 1) (v / 256)
    ∙ ap (λ (p : ℕ). sets (set s at (v % 256)) p (le_bytes n (v / 256))) (add-one at)

-- a read past the first bytes
pub read-after : (xs ys : List ℕ) (k n : ℕ) → read_le (xs ++ ys) (length xs + k) n ≡ read_le ys k n
read-after xs ys k n =
    le_same n (xs ++ ys) ys (length xs + k) k (λ j h. let e : length xs + k + j ≡ length xs + (k + j) = omega arith in rw e (get_or-append-add xs ys (k + j) 0))

pub read-le_bytes : (n v : ℕ) (later : List ℕ) → read_le (le_bytes n v ++ later) 0 n ≡ v % 256 ^ n
unfolding read_le le_bytes
read-le_bytes zero v later = sym (mod-one v)
read-le_bytes (suc n) v later =
    ap (λ (x : ℕ). x * 256 + v % 256) (read-after (v % 256 ∷ []) (le_bytes n (v / 256) ++ later) 0 n ∙ read-le_bytes n (v / 256) later)
    ∙ sym (last_byte n v)

-- the bytes of a number that was read
pub le_bytes-read : (n : ℕ) (s : List ℕ) (at : ℕ) → AreBytes s → at + n ≤ length s → le_bytes n (read_le s at n) ≡ take n (drop at s)
unfolding read_le le_bytes
le_bytes-read zero s at b h = refl
le_bytes-read (suc n) s at b h =
    let later = read_le s (at + 1) n in
    let next : suc at ≡ at + 1 = omega arith in
    ap₂ (λ (x : ℕ) (xs : List ℕ). x ∷ xs) (digits_mod later (b at))
    (ap (le_bytes n) (digits_div later (b at)) ∙ le_bytes-read n s (at + 1) b (omega arith))
    ∙ rw (drop-cons s at 0 (omega arith), next) refl
