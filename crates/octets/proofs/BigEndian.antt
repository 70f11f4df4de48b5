-- Numbers and their bytes, the highest first: a run of bytes read or written in two parts is the run of both.
-- Main results: `be_at-split`, `be_bytes-split`, `sets-split`, `be_at-lt`, `be_at-past`, `be_at-byte`, `be_at-be_bytes`, `be_bytes-read`, `be_at-sets`,
-- `bytes_bits`.
-- Assumes nothing.
use Rattle.std.proofs.Common.{◌≡◌, refl, sym, ap, ap₂, ◌∙◌, List, [], ◌∷◌, ◌++◌, append_assoc, append-nil, ℕ, zero, suc, ◌+◌, ◌*◌, ◌/◌, ◌%◌, ◌^◌, ◌≤◌, ◌<◌, suc-le-suc, zero-add, add-zero, add-suc, add_assoc, add-mul, mul-one, mul-suc, mul_assoc, pow-suc, div-one, mod-lt, zero-lt-suc, le_trans, le-add_right, le_refl, le_of_lt, ne_of_lt, add-one, arith, length, get_or, set, take, drop, length-append, length-drop, pow-add, get_or-set_same, get_or-set_other, get_or-drop, take-suc}
use native.Mathlib.Nat.{pow-succ', div-div-eq-div-mul, one-le-pow, mod-one}
use lib.Arith.{digits_lt, digits_div, digits_mod, mod-mul}
use lib.ListN.{get_or-append, get_or-eq_default}
use lib.Seq.{get_or-append_seam, sets, lt-length-sets}
use Rattle.octets.specs.BigEndian.{be_at, be_bytes}
use Rattle.octets.specs.Bytes.{AreBytes}
use Rattle.octets.proofs.Stores.{sets-append}

-- the bytes inside are enough, as past the end stand zeros
pub bytes_inside : (s : List ℕ) → ((i : ℕ) → i < length s → get_or s i 0 < 256) → AreBytes s
bytes_inside [] b i = zero-lt-suc 255
bytes_inside (x ∷ s) b zero = b 0 (zero-lt-suc (length s))
bytes_inside (x ∷ s) b (suc i) = bytes_inside s (λ j h. b (suc j) (suc-le-suc h)) i

-- n bytes are 8n bits
pub bytes_bits : (n : ℕ) → 256 ^ n ≡ 2 ^ (8 * n)
bytes_bits zero = refl
bytes_bits (suc n) =
    pow-suc 256 n ∙ ap (λ (x : ℕ). x * 256) (bytes_bits n) ∙ sym (ap (λ (k : ℕ). 2 ^ k) (mul-suc 8 n) ∙ pow-add 2 (8 * n) 8)

-- ---- reading

pub be_at-split : (s : List ℕ) (at j k : ℕ) → be_at s at (j + k) ≡ be_at s at j * 256 ^ k + be_at s (at + j) k
unfolding be_at
be_at-split s at j zero =
    ap (be_at s at) (add-zero j) ∙ sym (mul-one (be_at s at j)) ∙ sym (add-zero (be_at s at j * 1))
be_at-split s at j (suc k) =
    let x = be_at s at j in
    let y = be_at s (at + j) k in
    ap (be_at s at) (add-suc j k)
    ∙ ap₂ (λ (p q : ℕ). p * 256 + get_or s q 0) (be_at-split s at j k) (sym (add_assoc at j k))
    ∙ ap (λ (p : ℕ). p + get_or s (at + j + k) 0)
    (add-mul (x * 256 ^ k) y 256 ∙ ap (λ (p : ℕ). p + y * 256) (mul_assoc x (256 ^ k) 256 ∙ ap (λ (p : ℕ). x * p) (sym (pow-suc 256 k))))
    ∙ add_assoc (x * 256 ^ suc k) (y * 256) (get_or s (at + j + k) 0)

-- one more byte, as a loop has it
pub be_at-next : (s : List ℕ) (at n : ℕ) → be_at s at (n + 1) ≡ be_at s at n * 256 + get_or s (at + n) 0
unfolding be_at
be_at-next s at n = ap (be_at s at) (add-one n)

pub be_at-lt : (s : List ℕ) → AreBytes s → (at n : ℕ) → be_at s at n < 256 ^ n
unfolding be_at
be_at-lt s h at zero = zero-lt-suc 0
be_at-lt s h at (suc n) = rw pow-suc (digits_lt (be_at-lt s h at n) (h (at + n)))

-- bytes past the end count as zeros
pub be_at-past : (s : List ℕ) (at n : ℕ) → length s ≤ at → be_at s at n ≡ 0
unfolding be_at
be_at-past s at zero h = refl
be_at-past s at (suc n) h =
    ap₂ (λ (p q : ℕ). p * 256 + q) (be_at-past s at n h) (get_or-eq_default s 0 (le_trans h (le-add_right at n)))

-- byte i, where d bytes follow it
pub be_at-byte : (s : List ℕ) → AreBytes s → (at i d : ℕ) → be_at s at (suc i + d) / 256 ^ d % 256 ≡ get_or s (at + i) 0
unfolding be_at
be_at-byte s h at i d =
    ap (λ (x : ℕ). x / 256 ^ d % 256) (be_at-split s at (suc i) d)
    ∙ ap (λ (x : ℕ). x % 256) (digits_div (be_at s at (suc i)) (be_at-lt s h (at + suc i) d))
    ∙ digits_mod (be_at s at i) (h (at + i))

-- n bytes that agree are one number
pub be-same : (n : ℕ) (s t : List ℕ) (a b : ℕ) → ((k : ℕ) → k < n → get_or s (a + k) 0 ≡ get_or t (b + k) 0) → be_at s a n ≡ be_at t b n
unfolding be_at
be-same zero s t a b e = refl
be-same (suc n) s t a b e =
    ap₂ (λ (x y : ℕ). x * 256 + y) (be-same n s t a b (λ k h. e k (omega arith))) (e n (omega arith))

-- what is read tells the bytes read alone
pub be_at-same : (g h : List ℕ) (at n : ℕ) → ((p : ℕ) → (at ≤ p) × (p < at + n) → get_or g p 0 ≡ get_or h p 0) → be_at g at n ≡ be_at h at n
be_at-same g h at n e = be-same n g h at at (λ k l. e (at + k) (omega arith, omega arith))

-- ---- the bytes of a number

pub length-be_bytes : (n v : ℕ) → length (be_bytes n v) ≡ n
unfolding be_bytes
length-be_bytes zero v = refl
length-be_bytes (suc n) v =
    length-append (be_bytes n (v / 256)) (v % 256 ∷ []) ∙ ap (λ (p : ℕ). p + 1) (length-be_bytes n (v / 256)) ∙ add-one n

pub be_bytes-split : (j k v : ℕ) → be_bytes (j + k) v ≡ be_bytes j (v / 256 ^ k) ++ be_bytes k v
unfolding be_bytes
be_bytes-split j zero v =
    ap₂ be_bytes (add-zero j) (sym (div-one v)) ∙ sym (append-nil (be_bytes j (v / 1)))
be_bytes-split j (suc k) v =
    ap (λ (p : ℕ). be_bytes p v) (add-suc j k)
    ∙ ap (λ (p : List ℕ). p ++ (v % 256 ∷ [])) (be_bytes-split j k (v / 256))
    ∙ append_assoc (be_bytes j (v / 256 / 256 ^ k)) (be_bytes k (v / 256)) (v % 256 ∷ [])
    ∙ ap (λ (p : ℕ). be_bytes j p ++ be_bytes (suc k) v) (div-div-eq-div-mul v 256 (256 ^ k) ∙ ap (λ (p : ℕ). v / p) (sym (pow-succ' 256 k)))

-- the last byte of suc k, and those before it
pub last_byte : (k v : ℕ) → v % 256 ^ suc k ≡ v / 256 % 256 ^ k * 256 + v % 256
last_byte k v = ap (λ (p : ℕ). v % p) (pow-suc 256 k) ∙ mod-mul v (one-le-pow k 256 (zero-lt-suc 255)) (zero-lt-suc 255)

-- higher digits do not show in the last k bytes
pub be_bytes-mod : (k v : ℕ) → be_bytes k (v % 256 ^ k) ≡ be_bytes k v
unfolding be_bytes
be_bytes-mod zero v = refl
be_bytes-mod (suc k) v =
    let e = last_byte k v in
    ap₂ (λ (p q : ℕ). be_bytes k p ++ (q ∷ []))
    (ap (λ (p : ℕ). p / 256) e ∙ digits_div (v / 256 % 256 ^ k) (mod-lt v (zero-lt-suc 255)))
    (ap (λ (p : ℕ). p % 256) e ∙ digits_mod (v / 256 % 256 ^ k) (mod-lt v (zero-lt-suc 255)))
    ∙ ap (λ (p : List ℕ). p ++ (v % 256 ∷ [])) (be_bytes-mod k (v / 256))

pub be_at-be_bytes : (n v : ℕ) → be_at (be_bytes n v) 0 n ≡ v % 256 ^ n
unfolding be_at be_bytes
be_at-be_bytes zero v = sym (mod-one v)
be_at-be_bytes (suc n) v =
    let xs = be_bytes n (v / 256) in
    let b = v % 256 in
    let l = length-be_bytes n (v / 256) in
    ap₂ (λ (x y : ℕ). x * 256 + y)
    (be_at-same (xs ++ b ∷ []) xs 0 n (λ p w. get_or-append xs (b ∷ []) 0 p (omega (arith, w.1))) ∙ be_at-be_bytes n (v / 256))
    (ap (λ (k : ℕ). get_or (xs ++ b ∷ []) k 0) (zero-add n ∙ sym l) ∙ get_or-append_seam xs b [] 0)
    ∙ sym (last_byte n v)

-- the bytes of a number that was read
pub be_bytes-read : (n : ℕ) (s : List ℕ) (at : ℕ) → AreBytes s → at + n ≤ length s → be_bytes n (be_at s at n) ≡ take n (drop at s)
unfolding be_at be_bytes
be_bytes-read zero s at b h = refl
be_bytes-read (suc n) s at b h =
    let l = length-drop at s in
    ap₂ (λ (xs : List ℕ) (x : ℕ). xs ++ x ∷ [])
    (ap (be_bytes n) (digits_div (be_at s at n) (b (at + n))) ∙ be_bytes-read n s at b (omega arith))
    (digits_mod (be_at s at n) (b (at + n)) ∙ sym (get_or-drop at s n 0))
    ∙ sym (take-suc (drop at s) n 0 (omega arith))

-- ---- writing

-- the high j bytes, then the low k
pub sets-split : (l : List ℕ) (at j k v : ℕ)
    → sets (sets l at (be_bytes j (v / 256 ^ k))) (at + j) (be_bytes k v) ≡ sets l at (be_bytes (j + k) v)
sets-split l at j k v =
    let xs = be_bytes j (v / 256 ^ k) in
    ap (λ (p : ℕ). sets (sets l at xs) (at + p) (be_bytes k v)) (sym (length-be_bytes j (v / 256 ^ k)))
    ∙ sets-append l at xs (be_bytes k v)
    ∙ ap (sets l at) (sym (be_bytes-split j k v))

pub sets-join : (l : List ℕ) (at j k a r : ℕ) → r < 256 ^ k
    → sets (sets l at (be_bytes j a)) (at + j) (be_bytes k r) ≡ sets l at (be_bytes (j + k) (a * 256 ^ k + r))
sets-join l at j k a r h =
    let v = a * 256 ^ k + r in
    ap₂ (λ (p : ℕ) (q : List ℕ). sets (sets l at (be_bytes j p)) (at + j) q) (sym (digits_div a h))
    (ap (be_bytes k) (sym (digits_mod a h)) ∙ be_bytes-mod k v)
    ∙ sets-split l at j k v

-- ---- what was written is read again

be_at-set-past : (l : List ℕ) (at n i b : ℕ) → at + n ≤ i → be_at (set l i b) at n ≡ be_at l at n
unfolding be_at
be_at-set-past l at zero i b h = refl
be_at-set-past l at (suc n) i b h =
    let below : at + n < i = omega arith in
    ap₂ (λ (p q : ℕ). p * 256 + q) (be_at-set-past l at n i b (le_of_lt below)) (get_or-set_other l i (at + n) b 0 (ne_of_lt below))

pub be_at-sets : (l : List ℕ) (at n v : ℕ) → at + n ≤ length l → be_at (sets l at (be_bytes n v)) at n ≡ v % 256 ^ n
unfolding be_at be_bytes
be_at-sets l at zero v h = sym (mod-one v)
be_at-sets l at (suc n) v h =
    let xs = be_bytes n (v / 256) in
    let m = sets l at xs in
    let b = v % 256 in
    let inside : at + n < length l = omega arith in
    ap (λ (p : List ℕ). be_at p at (suc n))
    (sym (sets-append l at xs (b ∷ [])) ∙ ap (λ (p : ℕ). set m (at + p) b) (length-be_bytes n (v / 256)))
    ∙ ap₂ (λ (p q : ℕ). p * 256 + q)
    (be_at-set-past m at n (at + n) b (le_refl (at + n)) ∙ be_at-sets l at n (v / 256) (le_of_lt inside))
    (get_or-set_same m (at + n) b 0 (lt-length-sets l at xs inside))
    ∙ sym (last_byte n v)
