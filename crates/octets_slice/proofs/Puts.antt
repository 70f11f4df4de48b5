-- What a slice holds while bytes are put one after the other. Main result: `sets-next`. Assumes nothing.
use Rattle.std.proofs.Common.{◌≡◌, ℕ, zero, suc, ◌+◌, ◌-◌, ◌≤◌, ◌<◌, List, [], ◌∷◌, length, set, take, get_or, ap, ◌∙◌, arith}
use Rattle.std.proofs.lemmas.List.Edits.{sets}

sets_more : (l vs : List ℕ) (k j : ℕ) → j < length vs
    → set (sets l k (take j vs)) (k + j) (get_or vs j 0) ≡ sets l k (take (suc j) vs)
sets_more l [] k j h = absurd (omega arith)
sets_more l (a ∷ vs) k zero h = let e : k + 0 ≡ k = omega arith in rw e
sets_more l (a ∷ vs) k (suc j) h = let e : k + suc j ≡ suc k + j = omega arith in rw e (sets_more (set l k a) vs (suc k) j (omega arith))

-- one more, at the place i
pub sets-next : (l vs s : List ℕ) (k i : ℕ) → k ≤ i → i - k < length vs → s ≡ sets l k (take (i - k) vs)
    → set s i (get_or vs (i - k) 0) ≡ sets l k (take (i + 1 - k) vs)
sets-next l vs s k i h j e =
    let place : i ≡ k + (i - k) = omega arith in
    let count : suc (i - k) ≡ i + 1 - k = omega arith in
    ap (λ (m : List ℕ). set m i (get_or vs (i - k) 0)) e
    ∙ ap (λ (n : ℕ). set (sets l k (take (i - k) vs)) n (get_or vs (i - k) 0)) place
    ∙ sets_more l vs k (i - k) j
    ∙ ap (λ (n : ℕ). sets l k (take n vs)) count
