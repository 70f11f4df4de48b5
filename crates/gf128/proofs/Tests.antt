-- A rule of a table, proved at all of its entries by one test that antt computes. Main result: `all_below-at`.
-- Assumes nothing.
use mathlib.Core.Path.{subst, sym}
use mathlib.Core.Bool.{Bool, true, false, ◌&&◌}
use mathlib.Core.Logic.{⊎_elim}
use Prim.Native.Nat.{ℕ, zero, suc, ◌<◌}
use native.Mathlib.Nat.{eq-or-lt_of_le, le_of_suc-le-suc, not-suc-le-zero}
use lib.Dec.{T}

pub and_left : (a b : Bool) → T (a && b) → T a
and_left true b t = tt
and_left false b t = t

pub and_right : (a b : Bool) → T (a && b) → T b
and_right true b t = t
and_right false b t = absurd t

-- the test p passes at every number below n
abbrev pub all_below : ℕ → (ℕ → Bool) → Bool
all_below zero p = true
all_below (suc n) p = p n && all_below n p

pub all_below-at : (n : ℕ) (p : ℕ → Bool) → T (all_below n p) → (k : ℕ) → k < n → T (p k)
all_below-at zero p t k h = absurd (not-suc-le-zero h)
all_below-at (suc n) p t k h =
    ⊎_elim (λ e. subst (λ (x : ℕ). T (p x)) (sym e) (and_left (p n) (all_below n p) t))
    (λ l. all_below-at n p (and_right (p n) (all_below n p) t) k l)
    (eq-or-lt_of_le (le_of_suc-le-suc h))
