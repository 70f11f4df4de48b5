-- One changed block always shows: under one key that is not zero, two lists of blocks that differ at exactly one place have different
-- partial hashes (`one-changed-block`), and two messages with equal lengths whose blocks do so have different hashes (`one-changed-ghash`).
-- Assumes nothing.
use mathlib.Core.Path.{◌≡◌, sym, ap, ap₂, ◌∙◌}
use mathlib.Core.Logic.{◌≢◌}
use mathlib.Core.List.{List, [], ◌∷◌, ◌++◌}
use Prim.Native.Nat.{ℕ, zero, suc, ◌+◌, ◌*◌, ◌/◌, ◌^◌, ◌<◌}
use native.Mathlib.Nat.{suc_inj, suc-ne-zero, le_of_suc-le-suc, not-suc-le-zero}
use lib.Pow.{pow_pos}
use lib.ListN.{length, get_or}
use lib.Seq.{ext_get_or}
use Rattle.octets.specs.Bytes.{AreBytes}
use Rattle.gf128.specs.Differ.{DifferOnce}
use Rattle.gf128.specs.Hash.{next, over, blocks_from, blocks_of, length_block, ghash}
use Rattle.octets.proofs.BigEndian.{be_at-lt}
use Rattle.gf128.proofs.Hash.{over-append, ghash-parts}
use Rattle.gf128.proofs.Next.{next-lt, next-cancel, next-cancel-block}

-- ---- lists of blocks

module _ (h : ℕ) (hh : h < 2 ^ 128) (h0 : h ≢ 0) where
  -- what differs before a list of blocks differs after it
  pub over-cancel : (y z : ℕ) (xs : List ℕ) → y < 2 ^ 128 → z < 2 ^ 128 → over h y xs ≡ over h z xs → y ≡ z
  unfolding over
  over-cancel y z [] hy hz e = e
  over-cancel y z (x ∷ xs) hy hz e =
      next-cancel h y z x hh h0 hy hz (over-cancel (next h y x) (next h z x) xs (next-lt h y x hh) (next-lt h z x hh) e)

  changed : (y : ℕ) (xs ys : List ℕ) (i : ℕ) → ((k : ℕ) → get_or xs k 0 < 2 ^ 128) → ((k : ℕ) → get_or ys k 0 < 2 ^ 128)
      → length xs ≡ length ys → i < length xs → get_or xs i 0 ≢ get_or ys i 0 → ((k : ℕ) → k ≢ i → get_or xs k 0 ≡ get_or ys k 0)
      → over h y xs ≢ over h y ys
  unfolding over
  changed y [] ys i bx by e l d a = λ s. not-suc-le-zero l
  changed y (x ∷ xs) [] i bx by e l d a = λ s. suc-ne-zero (length xs) e
  changed y (x ∷ xs) (z ∷ ys) zero bx by e l d a =
      λ s. d (next-cancel-block h y x z hh h0 (bx 0) (by 0)
      (over-cancel (next h y x) (next h y z) xs (next-lt h y x hh) (next-lt h y z hh)
      (s ∙ ap (over h (next h y z)) (sym (ext_get_or 0 xs ys (suc_inj e) (λ k hk. a (suc k) (suc-ne-zero k)))))))
  changed y (x ∷ xs) (z ∷ ys) (suc i) bx by e l d a =
      λ s. changed (next h y x) xs ys i (λ k. bx (suc k)) (λ k. by (suc k)) (suc_inj e) (le_of_suc-le-suc l) d
      (λ k n. a (suc k) (λ q. n (suc_inj q)))
      (s ∙ ap (λ (v : ℕ). over h (next h y v) ys) (sym (a 0 (λ q. suc-ne-zero i (sym q)))))

  pub one-changed-block : (xs ys : List ℕ) → ((k : ℕ) → get_or xs k 0 < 2 ^ 128) → ((k : ℕ) → get_or ys k 0 < 2 ^ 128)
      → DifferOnce xs ys → over h 0 xs ≢ over h 0 ys
  one-changed-block xs ys bx by d = changed 0 xs ys d.place bx by d.lengths d.inside d.differs d.agrees

-- ---- the blocks of a list of bytes

module _ (s : List ℕ) (bytes : AreBytes s) where
  blocks_from-lt : (i n k : ℕ) → get_or (blocks_from s i n) k 0 < 2 ^ 128
  unfolding blocks_from
  blocks_from-lt i zero k = pow_pos 128
  blocks_from-lt i (suc n) zero = be_at-lt s bytes (16 * i) 16
  blocks_from-lt i (suc n) (suc k) = blocks_from-lt (i + 1) n k

  pub blocks_of-lt : (k : ℕ) → get_or (blocks_of s) k 0 < 2 ^ 128
  unfolding blocks_of
  blocks_of-lt k = blocks_from-lt 0 ((length s + 15) / 16) k

append-lt : (n : ℕ) (xs ys : List ℕ) → ((k : ℕ) → get_or xs k 0 < n) → ((k : ℕ) → get_or ys k 0 < n) → (k : ℕ) → get_or (xs ++ ys) k 0 < n
append-lt n [] ys bx by k = by k
append-lt n (x ∷ xs) ys bx by zero = bx 0
append-lt n (x ∷ xs) ys bx by (suc k) = append-lt n xs ys (λ j. bx (suc j)) by k

over-lt : (h y : ℕ) (xs : List ℕ) → h < 2 ^ 128 → y < 2 ^ 128 → over h y xs < 2 ^ 128
unfolding over
over-lt h y [] hh hy = hy
over-lt h y (x ∷ xs) hh hy = over-lt h (next h y x) xs hh (next-lt h y x hh)

pub one-changed-ghash : (h : ℕ) → h < 2 ^ 128 → h ≢ 0 → (a c a' c' : List ℕ)
    → AreBytes a → AreBytes c → AreBytes a' → AreBytes c'
    → length a ≡ length a' → length c ≡ length c' → DifferOnce (blocks_of a ++ blocks_of c) (blocks_of a' ++ blocks_of c')
    → ghash h a c ≢ ghash h a' c'
one-changed-ghash h hh h0 a c a' c' ba bc ba' bc' la lc d e =
    one-changed-block h hh h0 xs ys (append-lt (2 ^ 128) (blocks_of a) (blocks_of c) (blocks_of-lt a ba) (blocks_of-lt c bc))
    (append-lt (2 ^ 128) (blocks_of a') (blocks_of c') (blocks_of-lt a' ba') (blocks_of-lt c' bc')) d
    (next-cancel h (over h 0 xs) (over h 0 ys) (length_block (length a) (length c)) hh h0 (over-lt h 0 xs hh (pow_pos 128)) (over-lt h 0 ys hh (pow_pos 128))
    (sym (last a c) ∙ e ∙ last a' c' ∙ ap₂ (λ (m n : ℕ). next h (over h 0 ys) (length_block m n)) (sym la) (sym lc)))
  where
    last : (a c : List ℕ) → ghash h a c ≡ next h (over h 0 (blocks_of a ++ blocks_of c)) (length_block (length a) (length c))
    last a c = ghash-parts h a c ∙ ap (λ (y : ℕ). next h y (length_block (length a) (length c))) (sym (over-append h 0 (blocks_of a) (blocks_of c)))

    xs : List ℕ
    xs = blocks_of a ++ blocks_of c

    ys : List ℕ
    ys = blocks_of a' ++ blocks_of c'
