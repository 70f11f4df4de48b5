-- What stands where after a run of stores, past the end of the list too. Main results: `sets-append`, `sets-other`, `sets-at`, `sets-past`,
-- `sets-cut`, `sets-whole`, `parts_join`. Assumes nothing.
use Rattle.std.proofs.Common.{◌≡◌, refl, sym, ap, ap₂, ◌∙◌, List, [], ◌∷◌, ◌++◌, append-nil, ℕ, zero, suc, ◌+◌, ◌≤◌, ◌<◌, min, add-zero, add-suc, suc-add, le_of_suc-le-suc, not-suc-le-zero, arith, length, length-set, set, take, drop, get_or, drop_of_length-le, get_or-set_same, get_or-set_other, take-add, drop-drop}
use lib.Seq.{sets, sets-eq, set_out}

pub sets-append : (l : List ℕ) (i : ℕ) (xs ys : List ℕ) → sets (sets l i xs) (i + length xs) ys ≡ sets l i (xs ++ ys)
sets-append l i [] ys = ap (λ (p : ℕ). sets l p ys) (add-zero i)
sets-append l i (x ∷ xs) ys =
    ap (λ (p : ℕ). sets (sets (set l i x) (suc i) xs) p ys) (add-suc i (length xs) ∙ sym (suc-add i (length xs)))
    ∙ sets-append (set l i x) (suc i) xs ys

-- a write changes the bytes written alone
pub sets-other : (l : List ℕ) (i : ℕ) (vs : List ℕ) (p : ℕ) → ((i ≤ p) × (p < i + length vs) → ⊥) → get_or (sets l i vs) p 0 ≡ get_or l p 0
sets-other l i [] p h = refl
sets-other l i (v ∷ vs) p h =
    sets-other (set l i v) (suc i) vs p (λ w. h (omega arith, omega arith)) ∙ get_or-set_other l i p v 0 (λ e. h (omega arith, omega arith))

-- what was stored stands there
pub sets-at : (l : List ℕ) (i : ℕ) (vs : List ℕ) (k : ℕ) → i + length vs ≤ length l → k < length vs → get_or (sets l i vs) (i + k) 0 ≡ get_or vs k 0
sets-at l i [] k h hk = absurd (not-suc-le-zero hk)
sets-at l i (v ∷ vs) zero h hk =
    ap (λ (x : ℕ). get_or (sets (set l i v) (suc i) vs) x 0) (add-zero i)
    ∙ sets-other (set l i v) (suc i) vs i (λ w. omega arith)
    ∙ get_or-set_same l i v 0 (omega arith)
sets-at l i (v ∷ vs) (suc k) h hk =
    ap (λ (x : ℕ). get_or (sets (set l i v) (suc i) vs) x 0) (add-suc i k ∙ sym (suc-add i k))
    ∙ sets-at (set l i v) (suc i) vs k (rw length-set (omega arith)) (le_of_suc-le-suc hk)

-- nothing is put past the end
pub sets-past : (l vs : List ℕ) (k : ℕ) → length l ≤ k → sets l k vs ≡ l
sets-past l [] k h = refl
sets-past l (a ∷ vs) k h = rw (set_out l k a h) (sets-past l vs (suc k) (omega arith))

-- what is left out lies past the end
pub sets-cut : (l vs : List ℕ) (k j : ℕ) → min (k + length vs) (length l) ≤ k + j → sets l k (take j vs) ≡ sets l k vs
sets-cut l [] k zero h = refl
sets-cut l [] k (suc j) h = refl
sets-cut l (a ∷ vs) k zero h = sym (sets-past l (a ∷ vs) k (omega arith))
sets-cut l (a ∷ vs) k (suc j) h = sets-cut (set l k a) vs (suc k) j (simp length-set (omega arith))

-- as many as there are places
pub sets-whole : (l vs : List ℕ) → length l ≡ length vs → sets l 0 vs ≡ vs
sets-whole l vs e =
    sets-eq vs l 0 (omega arith)
    ∙ ap (λ (r : List ℕ). vs ++ r) (drop_of_length-le l {i = 0 + length vs} (omega arith))
    ∙ append-nil vs

-- n bytes of a list from `at` on, before the m bytes after them
pub parts_join : (n m at next : ℕ) (s first later : List ℕ) → first ≡ take n (drop at s) → next ≡ at + n → later ≡ take m (drop next s)
    → first ++ later ≡ take (n + m) (drop at s)
parts_join n m at next s first later f e l =
    ap₂ (λ (x y : List ℕ). x ++ y) f (l ∙ ap (take m) (ap (λ (p : ℕ). drop p s) e ∙ sym (drop-drop n at s)))
    ∙ sym (take-add n m (drop at s))
