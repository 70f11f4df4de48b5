-- One changed byte is one changed block: `any-byte-of-a`, `any-byte-of-c`; `any-nonzero-key`; and `witnesses`, which are some of them.
-- Assumes nothing.
use Rattle.std.proofs.Common.{◌≡◌, refl, sym, ap, ◌∙◌, subst, ◌≢◌, ⊎_elim, List, [], ◌∷◌, ◌++◌, ℕ, zero, suc, ◌+◌, ◌*◌, ◌/◌, ◌%◌, ◌<◌, ◌≤◌, suc-le-suc, add-zero, zero-add, mod-lt, zero-lt-suc, not-suc-le-zero, le_of_suc-le-suc, suc-ne-zero, eq-or-lt_of_le, ne_of_lt, le_refl, arith, lit<, lit≤, length, get_or, set, replicate, length-append, length-set, get_or-set_same, get_or-set_other}
use native.Mathlib.Nat.{suc_inj}
use lib.Arith.{digits_div, digits_mod}
use lib.ListN.{length-replicate, get_or-replicate, get_or-append}
use Rattle.octets.specs.BigEndian.{be_at}
use Rattle.octets.specs.Bytes.{AreBytes}
use Rattle.octets.proofs.BigEndian.{be-same, bytes_inside}
use Rattle.octets.proofs.LittleEndian.{set-bytes}
use Rattle.gf128.specs.Bytes.{block_at}
use Rattle.gf128.specs.Differ.{DifferOnce}
use Rattle.gf128.specs.Hash.{blocks_from, blocks_of}
use Rattle.theorems.specs.Witnesses.{AnyNonzeroKey, AnyByteOfA, AnyByteOfC, Witnesses}

-- ---- equal numbers have equal bytes

be-bytes : (s t : List ℕ) → AreBytes s → AreBytes t → (at n : ℕ) → be_at s at n ≡ be_at t at n
    → (k : ℕ) → k < n → get_or s (at + k) 0 ≡ get_or t (at + k) 0
unfolding be_at
be-bytes s t bs bt at zero e k h = absurd (not-suc-le-zero h)
be-bytes s t bs bt at (suc n) e k h =
    let x = be_at s at n in
    let y = be_at t at n in
    let front : x ≡ y = sym (digits_div x (bs (at + n))) ∙ ap (λ (v : ℕ). v / 256) e ∙ digits_div y (bt (at + n)) in
    let last : get_or s (at + n) 0 ≡ get_or t (at + n) 0 = sym (digits_mod x (bs (at + n))) ∙ ap (λ (v : ℕ). v % 256) e ∙ digits_mod y (bt (at + n)) in
    ⊎_elim (λ q. subst (λ (j : ℕ). get_or s (at + j) 0 ≡ get_or t (at + j) 0) (sym q) last) (λ l. be-bytes s t bs bt at n front k l) (eq-or-lt_of_le (le_of_suc-le-suc h))

-- ---- a list of blocks that differs once, before and after another

differ-before : (zs xs ys : List ℕ) → DifferOnce xs ys → DifferOnce (zs ++ xs) (zs ++ ys)
differ-before [] xs ys d = d
differ-before (z ∷ zs) xs ys d =
    let r = differ-before zs xs ys d in
    record {
      lengths = ap suc r.lengths;
      place = suc r.place;
      inside = suc-le-suc r.inside;
      differs = r.differs;
      agrees =
          λ k. elim k as (λ k. (k ≡ suc r.place → ⊥) → get_or (z ∷ (zs ++ xs)) k 0 ≡ get_or (z ∷ (zs ++ ys)) k 0)
          [ zero ↦ (λ n. refl) | suc j ↦ (λ n. r.agrees j (λ q. n (ap suc q))) ];
    }

append-same : (xs ys zs : List ℕ) → length xs ≡ length ys → (k : ℕ) → get_or xs k 0 ≡ get_or ys k 0 → get_or (xs ++ zs) k 0 ≡ get_or (ys ++ zs) k 0
append-same [] [] zs e k h = refl
append-same [] (y ∷ ys) zs e k h = absurd (suc-ne-zero (length ys) (sym e))
append-same (x ∷ xs) [] zs e k h = absurd (suc-ne-zero (length xs) e)
append-same (x ∷ xs) (y ∷ ys) zs e zero h = h
append-same (x ∷ xs) (y ∷ ys) zs e (suc k) h = append-same xs ys zs (suc_inj e) k h

differ-after : (xs ys zs : List ℕ) → DifferOnce xs ys → DifferOnce (xs ++ zs) (ys ++ zs)
differ-after xs ys zs d =
    let p = d.place in
    let lx = length-append xs zs in
    let ly = length-append ys zs in
    let e = d.lengths in
    let inside = d.inside in
    record {
      lengths = lx ∙ ap (λ (n : ℕ). n + length zs) e ∙ sym ly;
      place = p;
      inside = omega arith;
      differs = λ q. d.differs
          (sym (get_or-append xs zs 0 p inside) ∙ q ∙ get_or-append ys zs 0 p (subst (λ (n : ℕ). p < n) e inside));
      agrees = λ k n. append-same xs ys zs e k (d.agrees k n);
    }

-- ---- the blocks of bytes of which one is changed

length-blocks : (s : List ℕ) (j n : ℕ) → length (blocks_from s j n) ≡ n
unfolding blocks_from
length-blocks s j zero = refl
length-blocks s j (suc n) = ap suc (length-blocks s (j + 1) n)

block-at : (s : List ℕ) (j n k : ℕ) → k < n → get_or (blocks_from s j n) k 0 ≡ block_at s (16 * (j + k))
unfolding blocks_from
block-at s j zero k h = absurd (not-suc-le-zero h)
block-at s j (suc n) zero h = ap (λ (i : ℕ). block_at s (16 * i)) (sym (add-zero j))
block-at s j (suc n) (suc k) h = block-at s (j + 1) n k (le_of_suc-le-suc h) ∙ ap (λ (i : ℕ). block_at s (16 * i)) (omega arith)

block_same : (s t : List ℕ) (j n k : ℕ) → block_at s (16 * (j + k)) ≡ block_at t (16 * (j + k))
    → get_or (blocks_from s j n) k 0 ≡ get_or (blocks_from t j n) k 0
unfolding blocks_from
block_same s t j zero k e = refl
block_same s t j (suc n) zero e = subst (λ (i : ℕ). block_at s (16 * i) ≡ block_at t (16 * i)) (add-zero j) e
block_same s t j (suc n) (suc k) e =
    let q : j + suc k ≡ j + 1 + k = omega arith in
    block_same s t (j + 1) n k (subst (λ (i : ℕ). block_at s (16 * i) ≡ block_at t (16 * i)) q e)

module _ (s : List ℕ) (i b : ℕ) (bytes : AreBytes s) (inside : i < length s) (byte : b < 256) (other : get_or s i 0 ≢ b) where
  bytes-set : AreBytes (set s i b)
  bytes-set = set-bytes s i b byte bytes

  differs-once : DifferOnce (blocks_of s) (blocks_of (set s i b))
  unfolding blocks_of
  differs-once =
      let t = set s i b in
      let n = (length s + 15) / 16 in
      let p = i / 16 in
      let at : 16 * (0 + p) + i % 16 ≡ i = omega arith in
      let low : i % 16 < 16 = mod-lt i (zero-lt-suc 15) in
      let p-in : p < n = omega arith in
      let apart : (k : ℕ) → k ≢ p → (m : ℕ) → m < 16 → 16 * (0 + k) + m ≢ i = λ k q m h e. q (omega arith) in
      subst (λ (m : ℕ). DifferOnce (blocks_from s 0 n) (blocks_from t 0 ((m + 15) / 16))) (sym (length-set s i b))
      (record {
        lengths = length-blocks s 0 n ∙ sym (length-blocks t 0 n);
        place = p;
        inside = subst (λ (m : ℕ). p < m) (sym (length-blocks s 0 n)) p-in;
        differs = λ e. other
            (sym (ap (λ (j : ℕ). get_or s j 0) at)
            ∙ be-bytes s t bytes bytes-set (16 * (0 + p)) 16
            (sym (block-at s 0 n p p-in) ∙ e ∙ block-at t 0 n p p-in) (i % 16) low
            ∙ ap (λ (j : ℕ). get_or t j 0) at ∙ get_or-set_same s i b 0 inside);
        agrees = λ k q. block_same s t 0 n k
            (be-same 16 s t (16 * (0 + k)) (16 * (0 + k)) (λ m h. sym (get_or-set_other s i (16 * (0 + k) + m) b 0 (apart k q m h))));
      })

-- ---- the messages

pub any-byte-of-a : AnyByteOfA
any-byte-of-a a c i b ba bc la lc h hb n =
    record {
      first = record { bytes_a = ba; bytes_c = bc; within_a = la; within_c = lc };
      second = record { bytes_a = bytes-set a i b ba h hb n; bytes_c = bc; within_a = subst (λ (m : ℕ). m ≤ 1048576) (sym (length-set a i b)) la; within_c = lc };
      lengths_a = sym (length-set a i b);
      lengths_c = refl;
      once = differ-after (blocks_of a) (blocks_of (set a i b)) (blocks_of c) (differs-once a i b ba h hb n);
    }

pub any-byte-of-c : AnyByteOfC
any-byte-of-c a c i b ba bc la lc h hb n =
    record {
      first = record { bytes_a = ba; bytes_c = bc; within_a = la; within_c = lc };
      second = record { bytes_a = ba; bytes_c = bytes-set c i b bc h hb n; within_a = la; within_c = subst (λ (m : ℕ). m ≤ 1048576) (sym (length-set c i b)) lc };
      lengths_a = refl;
      lengths_c = sym (length-set c i b);
      once = differ-before (blocks_of a) (blocks_of c) (blocks_of (set c i b)) (differs-once c i b bc h hb n);
    }

be-zero : (s : List ℕ) (at n k : ℕ) → k < n → be_at s at n ≡ 0 → get_or s (at + k) 0 ≡ 0
unfolding be_at
be-zero s at zero k h e = absurd (not-suc-le-zero h)
be-zero s at (suc n) k h e =
    let x = be_at s at n in
    let front : x ≡ 0 = omega arith in
    let last : get_or s (at + n) 0 ≡ 0 = omega arith in
    ⊎_elim (λ q. subst (λ (j : ℕ). get_or s (at + j) 0 ≡ 0) (sym q) last) (λ l. be-zero s at n k l front) (eq-or-lt_of_le (le_of_suc-le-suc h))

pub any-nonzero-key : AnyNonzeroKey
any-nonzero-key key i l b h n =
    record { sixteen = l; bytes = b; not_zero = λ e. n (ap (λ (j : ℕ). get_or key j 0) (sym (zero-add i)) ∙ be-zero key 0 16 i h e) }

all-bytes : (n v : ℕ) → v < 256 → AreBytes (replicate n v)
all-bytes n v h =
    bytes_inside (replicate n v)
    (λ i j. subst (λ (x : ℕ). x < 256) (sym (get_or-replicate n i v 0 (subst (λ (m : ℕ). i < m) (length-replicate n v) j))) h)

ones : (n : ℕ) → AreBytes (replicate n 1)
ones n = all-bytes n 1 (lit< tt)

next-differs : (n : ℕ) → n ≢ suc n
next-differs n = ne_of_lt (le_refl (suc n))

pub witnesses : Witnesses
witnesses =
    record {
      key = any-nonzero-key (set (replicate 16 0) 15 1) 15 refl
          (bytes-set (replicate 16 0) 15 1 (all-bytes 16 0 (lit< tt)) (lit< tt) (lit< tt) (next-differs 0)) (lit< tt) (suc-ne-zero 0);
      only_of_a = any-byte-of-a (replicate 1 1) [] 0 2 (ones 1) (ones 0) (lit≤ tt) (lit≤ tt) (lit< tt) (lit< tt) (next-differs 1);
      last_of_c = any-byte-of-c (replicate 16 1) (replicate 20 1) 19 2 (ones 16) (ones 20) (lit≤ tt) (lit≤ tt) (lit< tt) (lit< tt) (next-differs 1);
      middle_of_c = any-byte-of-c (replicate 20 1) (replicate 40 1) 16 2 (ones 20) (ones 40) (lit≤ tt) (lit≤ tt) (lit< tt) (lit< tt) (next-differs 1);
      middle_of_a = any-byte-of-a (replicate 40 1) (replicate 20 1) 16 2 (ones 40) (ones 20) (lit≤ tt) (lit≤ tt) (lit< tt) (lit< tt) (next-differs 1);
    }
