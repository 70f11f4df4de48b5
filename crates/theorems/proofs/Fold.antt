-- A fold over units of a register group, one after the other. If each step writes its own unit only, and what it writes is told by
-- the file at entry while only earlier units have been written, then so it is of the whole fold (`fold_done`).
-- Assumes nothing.
use Rattle.std.proofs.Common.{Bool, true, false, List, ⊎_elim, ◌≡◌, refl, ap, subst, ◌∙◌, ℕ, zero, suc, ◌+◌, ◌-◌, ◌<◌, ◌≤◌, eq-or-lt_of_le, le_refl, le_trans, le-add_right, arith, length, get_or}
use Rattle.vector_element.specs.Steps.{steps}
use Rattle.theorems.specs.Execution.{Within, Done}

-- g is the file, except at bytes low to high - 1
pub record Except (file g : List ℕ) (low high : ℕ) : Type 0 where
  pub same_length : length g ≡ length file
  pub same : (p : ℕ) → ((low ≤ p) × (p < high) → ⊥) → get_or g p 0 ≡ get_or file p 0

-- what a step makes of g at unit i, whose bytes are the `width` from `at` on: an active unit gets its result, and nothing else changes
pub record Does (g next : List ℕ) (at width : ℕ) (active : Bool) (read : List ℕ → ℕ) (result : ℕ) : Type 0 where
  pub same_length : length next ≡ length g
  pub other : (p : ℕ) → (Within at width p → ⊥) → get_or next p 0 ≡ get_or g p 0
  pub skipped : active ≡ false → next ≡ g
  pub written : active ≡ true → read next ≡ result

module _
    (file : List ℕ) (place : ℕ → ℕ) (width from to : ℕ) (S : ℕ → List ℕ → List ℕ)
    (active : ℕ → Bool) (read : ℕ → List ℕ → ℕ) (result : ℕ → ℕ)
    (apart : (i j : ℕ) → i < j → place i + width ≤ place j)
    (reads : (g h : List ℕ) (i : ℕ) → ((p : ℕ) → Within (place i) width p → get_or g p 0 ≡ get_or h p 0) → read i g ≡ read i h)
    (step : (i : ℕ) (g : List ℕ) → from ≤ i → i < to → Except file g (place from) (place i) → Does g (S i g) (place i) width (active i) (read i) (result i))
  where
    first : (i : ℕ) → from ≤ i → place from ≤ place i
    first i h = ⊎_elim (λ e. subst (λ (j : ℕ). place from ≤ place j) e (le_refl (place from))) (λ l. le_trans (le-add_right (place from) width) (apart from i l)) (eq-or-lt_of_le h)

    -- after a step the file is as at entry, except at the units done
    after : (i : ℕ) (g : List ℕ) → from ≤ i → i < to → Except file g (place from) (place i) → Except file (S i g) (place from) (place (i + 1))
    after i g hi ht e =
        let d = step i g hi ht e in
        let next = apart i (i + 1) (omega arith) in
        let low = first i hi in
        record {
          same_length = d.same_length ∙ e.same_length;
          same = λ p out. d.other p (λ w. out (omega arith, omega arith)) ∙ e.same p (λ w. out (omega arith, omega arith));
        }

    kept : (n i : ℕ) (g : List ℕ) → from ≤ i → i + n ≡ from + (to - from) → Except file g (place from) (place i) → length (steps S n i g) ≡ length file
    unfolding steps
    kept zero i g hi e x = x.same_length
    kept (suc n) i g hi e x = kept n (i + 1) (S i g) (omega arith) (omega arith) (after i g hi (omega arith) x)

    -- a byte of no active unit that is still to come is left
    left : (n i : ℕ) (g : List ℕ) → from ≤ i → i + n ≡ from + (to - from) → Except file g (place from) (place i)
        → (p : ℕ) → ((j : ℕ) → i ≤ j → j < to → active j ≡ true → Within (place j) width p → ⊥) → get_or (steps S n i g) p 0 ≡ get_or g p 0
    unfolding steps
    left zero i g hi e x p h = refl
    left (suc n) i g hi e x p h =
        let ht : i < to = omega arith in
        left n (i + 1) (S i g) (omega arith) (omega arith) (after i g hi ht x) p (λ j hj. h j (omega arith))
        ∙ go (active i) refl
      where
        go : (b : Bool) → active i ≡ b → get_or (S i g) p 0 ≡ get_or g p 0
        go true a = (step i g hi (omega arith) x).other p (h i (le_refl i) (omega arith) a)
        go false a = ap (λ (f : List ℕ). get_or f p 0) ((step i g hi (omega arith) x).skipped a)

    -- an active unit that is still to come gets its result
    done : (n i : ℕ) (g : List ℕ) → from ≤ i → i + n ≡ from + (to - from) → Except file g (place from) (place i)
        → (j : ℕ) → i ≤ j → j < to → active j ≡ true → read j (steps S n i g) ≡ result j
    unfolding steps
    done zero i g hi e x j hj ht a = absurd (omega arith)
    done (suc n) i g hi e x j hj ht a =
        ⊎_elim (λ q. subst (λ (k : ℕ). active k ≡ true → read k (steps S n (i + 1) (S i g)) ≡ result k) q now a)
        (λ l. done n (i + 1) (S i g) (omega arith) (omega arith) (after i g hi (omega arith) x) j (omega arith) ht a) (eq-or-lt_of_le hj)
      where
        now : active i ≡ true → read i (steps S n (i + 1) (S i g)) ≡ result i
        now b =
            reads (steps S n (i + 1) (S i g)) (S i g) i
            (λ p w. left n (i + 1) (S i g) (omega arith) (omega arith) (after i g hi (omega arith) x) p
            (λ k hk ht' a' w'. let far = apart i k (omega arith) in omega arith))
            ∙ (step i g hi (omega arith) x).written b

    pub fold_done : Done file (steps S (to - from) from file) from to width place active read result
    fold_done =
        let entry : Except file file (place from) (place from) = record { same_length = refl; same = λ p h. refl } in
        record {
          results = done (to - from) from file (le_refl from) refl entry;
          others = left (to - from) from file (le_refl from) refl entry;
          same_length = kept (to - from) from file (le_refl from) refl entry;
        }
