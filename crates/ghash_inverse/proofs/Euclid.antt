-- The rows of a division: the first two are rows (`started`), a turn keeps the rows and makes the degrees' sum less, where the second row is
-- cut from the first (`turned`) and where the first is cut from the second (`turned-other`), and at degree 0 the first factor is the
-- inverse (`ended`). Assumes nothing.
use Rattle.std.proofs.Common.{◌≡◌, sym, ap, ◌∙◌, subst, ◌≢◌, ℕ, suc, ◌+◌, ◌-◌, ◌/◌, ◌%◌, ◌^◌, ◌<◌, ◌≤◌, suc-le-suc, lt_of_le_of_lt, pos_of_ne-zero, zero-lt-suc, arith, bit_xor}
use lib.Bits.{xor_lt}
use lib.Pow.{shr_le}
use Rattle.gf128.specs.Degree.{degree_of}
use Rattle.gf128.specs.Field.{times_x, product, one}
use Rattle.gf128.proofs.Division.{Ends, zeros-less, zeros-shift, ends-zeros, ends-positive, ends-shift, ends-xor, xor-ends, degree-le, degree-ends, degree-one, row_cut, cut-multiple, cut-degree, one-zeros, row_first, one-ends}
use Rattle.gf128.proofs.Field.{one-lt, product_lt, product-comm, product-one-right, no-zero-divisors}
use Rattle.ghash_inverse.specs.Inverse.{IsRow, Divides}

value-lt : {h v f d : ℕ} → IsRow h v f d → v < 2 ^ 128
value-lt {h} {v} {f} r = subst (λ (x : ℕ). x < 2 ^ 128) r.product (product_lt h f r.block)

degree-lt : {h v f d : ℕ} → IsRow h v f d → d < 128
degree-lt {v = v} r = subst (λ (x : ℕ). x < 128) (sym r.degree) (suc-le-suc (degree-le v))

-- a factor that is not zero has a value that isn't
not-zero : (h v f z : ℕ) → h ≢ 0 → h < 2 ^ 128 → f < 2 ^ 128 → Ends f z → product h f ≡ v → v ≢ 0
not-zero h v f z n l lf e p q = ends-positive f z e (no-zero-divisors h f l lf (p ∙ q) n)

before : (d : ℕ) → 0 < d → d ≡ suc (d - 1)
before d p = omega arith

-- the row (b, t) of degree e = w + 1, cut from the row (a, s) of degree d = e + k
module _ {h a s d b t e a' s' d' : ℕ} (key : h ≢ 0) (block : h < 2 ^ 128) (first : IsRow h a s d) (second : IsRow h b t e) (k w : ℕ)
    (above : e ≡ suc w) (larger : e + k ≡ d) (zeros : t % 2 ^ (w + k) ≡ 0) (ends : Ends (bit_xor s (t / 2 ^ k)) w)
    (value : a' ≡ bit_xor a (b / 2 ^ k)) (factor : s' ≡ bit_xor s (t / 2 ^ k)) (degree : d' ≡ degree_of a') where
  cut : Divides h a' s' d' b t e × (d' < d)
  cut = (
    record {
      key = key;
      block = block;
      first = record { product = row; block = s'-lt; positive = a'-positive; degree = degree };
      second = second;
      above = rw above (zero-lt-suc w);
      first_ends = subst (Ends s') (same e w above) s'-ends;
      second_ends = zeros-less t (w + k) d' (fits d' d e k w larger above less) zeros;
    },
    less,
  )
    where
      same : (e w : ℕ) → e ≡ suc w → w ≡ e - 1
      same e w p = omega arith

      at_right : (w k : ℕ) → k ≤ w + k
      at_right w k = omega arith

      fits : (d' d e k w : ℕ) → e + k ≡ d → e ≡ suc w → d' < d → d' ≤ w + k
      fits d' d e k w p q l = omega arith

      degrees : degree_of b + k ≡ degree_of a
      degrees = ap (λ (x : ℕ). x + k) (sym second.degree) ∙ larger ∙ first.degree

      s'-lt : s' < 2 ^ 128
      s'-lt = subst (λ (x : ℕ). x < 2 ^ 128) (sym factor) (xor_lt 128 s (t / 2 ^ k) first.block (lt_of_le_of_lt (shr_le t k) second.block))

      s'-ends : Ends s' w
      s'-ends = subst (λ (x : ℕ). Ends x w) (sym factor) ends

      row : product h s' ≡ a'
      row =
          ap (product h) factor
          ∙ row_cut h a s b t k first.product second.product (zeros-less t (w + k) k (at_right w k) zeros)
          (cut-multiple a b k (value-lt first) (value-lt second) first.positive second.positive degrees)
          ∙ sym value

      a'-positive : a' ≢ 0
      a'-positive = not-zero h a' s' w key block s'-lt s'-ends row

      cut-lt : degree_of (bit_xor a (b / 2 ^ k)) < degree_of a
      cut-lt =
          cut-degree a b k (value-lt first) (value-lt second) first.positive second.positive degrees (λ z. a'-positive (value ∙ z))

      less : d' < d
      less = rw (degree, value, first.degree) cut-lt

-- ---- a turn

module _ {h a s d b t e a' s' d' : ℕ} (rows : Divides h a s d b t e) (degree : d' ≡ degree_of a') where
  pub turned : e ≤ d → a' ≡ bit_xor a (b / 2 ^ (d - e)) → s' ≡ bit_xor s (t / 2 ^ (d - e)) → Divides h a' s' d' b t e × (d' + e < d + e)
  turned l value factor =
      let (r, less) = cut rows.key rows.block rows.first rows.second (d - e) w (before e rows.above) larger zeros ends value factor degree in
      (r, more d' d e less)
    where
      sums : (d e : ℕ) → e ≤ d → e + (d - e) ≡ d
      sums d e l = omega arith

      below : (d e k w : ℕ) → e ≡ suc w → e + k ≡ d → w + k ≤ d
      below d e k w p q = omega arith

      more : (c d e : ℕ) → c < d → c + e < d + e
      more c d e l = omega arith

      w : ℕ
      w = e - 1

      larger : e + (d - e) ≡ d
      larger = sums d e l

      zeros : t % 2 ^ (w + (d - e)) ≡ 0
      zeros = zeros-less t d (w + (d - e)) (below d e (d - e) w (before e rows.above) larger) rows.second_ends

      ends : Ends (bit_xor s (t / 2 ^ (d - e))) w
      ends =
          ends-xor s (t / 2 ^ (d - e)) w rows.first_ends
          (zeros-shift t (suc w) (d - e)
          (subst (λ (x : ℕ). t % 2 ^ x ≡ 0) (sym (ap (λ (x : ℕ). x + (d - e)) (sym (before e rows.above)) ∙ larger)) rows.second_ends))

  -- the first row becomes the second
  pub turned-other : d < e → 0 < d → a' ≡ bit_xor b (a / 2 ^ (e - d)) → s' ≡ bit_xor t (s / 2 ^ (e - d))
      → Divides h a' s' d' a s d × (d' + d < d + e)
  turned-other l p value factor =
      let (r, less) = cut rows.key rows.block rows.second rows.first (e - d) (d - 1) (before d p) (sums d e l) zeros ends value factor degree in
      (r, more d' d e less)
    where
      sums : (d e : ℕ) → d < e → d + (e - d) ≡ e
      sums d e l = omega arith

      same : (d e w : ℕ) → 0 < d → d < e → e ≡ suc w → w ≡ d - 1 + (e - d)
      same d e w p l q = omega arith

      more : (c d e : ℕ) → c < e → c + d < d + e
      more c d e l = omega arith

      at : e - 1 ≡ d - 1 + (e - d)
      at = same d e (e - 1) p l (before e rows.above)

      zeros : s % 2 ^ (d - 1 + (e - d)) ≡ 0
      zeros = subst (λ (x : ℕ). s % 2 ^ x ≡ 0) at (ends-zeros s (e - 1) rows.first_ends)

      ends : Ends (bit_xor t (s / 2 ^ (e - d))) (d - 1)
      ends =
          xor-ends t (s / 2 ^ (e - d)) (d - 1) (subst (λ (x : ℕ). t % 2 ^ x ≡ 0) (before d p) rows.second_ends)
          (ends-shift s (d - 1) (e - d) (subst (λ (x : ℕ). Ends s x) at rows.first_ends))

-- ---- the first two rows

pub started : {h d a s c b t : ℕ} → h < 2 ^ 128 → h ≢ 0 → 0 < d → d ≡ degree_of h → a ≡ times_x (h / 2 ^ (127 - d)) → s ≡ one / 2 ^ (128 - d)
    → c ≡ degree_of a → b ≡ h → t ≡ one → Divides h a s c b t d
started {h} {d} {a} {s} {c} {b} {t} l n p e value factor degree same-b same-t =
    record {
      key = n;
      block = l;
      first = record { product = row; block = s-lt; positive = not-zero h a s (d - 1) n l s-lt s-ends row; degree = degree };
      second = record {
        product = ap (product h) same-t ∙ product-one-right h l ∙ sym same-b;
        block = rw same-t one-lt;
        positive = rw same-b n;
        degree = e ∙ ap degree_of (sym same-b);
      };
      above = p;
      first_ends = s-ends;
      second_ends = rw (same-t, degree) (one-zeros (degree_of a) (degree-le a));
    }
  where
    next : (d : ℕ) → d ≤ 127 → 128 - d ≡ suc (127 - d)
    next d l = omega arith

    room : (d : ℕ) → d ≤ 127 → d + (127 - d) ≡ 127
    room d l = omega arith

    below : (d : ℕ) → 0 < d → d ≤ 127 → 127 - d < 127
    below d p l = omega arith

    sums : (d : ℕ) → 0 < d → d ≤ 127 → d - 1 + suc (127 - d) ≡ 127
    sums d p l = omega arith

    d-le : d ≤ 127
    d-le = rw e (degree-le h)

    s-one : s ≡ one / 2 ^ suc (127 - d)
    s-one = factor ∙ ap (λ (x : ℕ). one / 2 ^ x) (next d d-le)

    s-lt : s < 2 ^ 128
    s-lt = subst (λ (x : ℕ). x < 2 ^ 128) (sym factor) (lt_of_le_of_lt (shr_le one (128 - d)) one-lt)

    s-ends : Ends s (d - 1)
    s-ends = subst (λ (x : ℕ). Ends x (d - 1)) (sym s-one) (one-ends (suc (127 - d)) (d - 1) (sums d p d-le))

    row : product h s ≡ a
    row =
        ap (product h) s-one
        ∙ row_first h (127 - d) l (below d p d-le)
        (ends-zeros h (127 - d) (degree-ends h (127 - d) l n (ap (λ (x : ℕ). x + (127 - d)) (sym e) ∙ room d d-le)))
        ∙ sym value

-- the degree of a key that is neither the zero nor the one block
pub degree-positive : (h : ℕ) → h < 2 ^ 128 → h ≢ 0 → h ≢ one → 0 < degree_of h
degree-positive h l n m = pos_of_ne-zero (λ z. m (degree-one h l n z))

-- ---- the end

pub degrees-lt : {h a s d b t e : ℕ} → Divides h a s d b t e → (d < 128) × (e < 128)
degrees-lt rows = (degree-lt rows.first, degree-lt rows.second)

-- a value of degree 0 is the one block
pub ended : {h a s d b t e : ℕ} → Divides h a s d b t e → d ≡ 0 → (product s h ≡ one) × (h ≢ 0)
ended {h} {a} {s} rows z = (
  product-comm s h rows.first.block rows.block ∙ rows.first.product
      ∙ degree-one a (value-lt rows.first) rows.first.positive (sym rows.first.degree ∙ z),
  rows.key,
)
