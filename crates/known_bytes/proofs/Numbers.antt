-- The numbers of a pattern, one after the other. Assumes nothing.
use Rattle.std.proofs.Common.{◌≡◌, ℕ, suc, ◌+◌, ap, ◌∙◌, arith}
use Rattle.known_bytes.specs.declared.pattern.Pattern.{Pattern}
use Rattle.known_bytes.specs.Pattern.{next_of, number_at}

pub number-next : (p : Pattern) (i : ℕ) {b r : ℕ} → r ≡ next_of p b → b ≡ number_at p i → r ≡ number_at p (i + 1)
unfolding number_at
number-next p i e n = let next : suc i ≡ i + 1 = omega arith in e ∙ ap (next_of p) n ∙ ap (number_at p) next
