-- What `fill` leaves, as a list. Assumes nothing.
use Rattle.std.proofs.Common.{◌≡◌, ℕ, zero, suc, ◌+◌, ◌<◌, List, [], ◌∷◌, length, get_or, refl, ap, ◌∙◌, arith}
use Rattle.known_bytes.specs.declared.pattern.Pattern.{Pattern}
use Rattle.known_bytes.specs.Pattern.{byte_at, filled_from, filled}

from_bytes : (p : Pattern) (s : List ℕ) (i : ℕ) → ((k : ℕ) → k < length s → get_or s k 0 ≡ byte_at p (i + k))
    → s ≡ filled_from p i (length s)
unfolding filled_from
from_bytes p [] i h = refl
from_bytes p (b ∷ s) i h =
    let first : i + 0 ≡ i = omega arith in
    let rest : s ≡ filled_from p (i + 1) (length s) =
    from_bytes p s (i + 1) (λ k l. let place : i + suc k ≡ i + 1 + k = omega arith in h (suc k) (omega arith) ∙ ap (byte_at p) place) in
    ap (λ (x : ℕ). x ∷ s) (h 0 (omega arith) ∙ ap (byte_at p) first) ∙ ap (λ (l : List ℕ). byte_at p i ∷ l) rest

-- the bytes of a pattern, one by one, are those of the list
pub is-filled : (p : Pattern) (s : List ℕ) (n : ℕ) → length s ≡ n → ((k : ℕ) → k < n → get_or s k 0 ≡ byte_at p k)
    → s ≡ filled p n
is-filled p s n e h = from_bytes p s 0 (λ k l. let place : k ≡ 0 + k = omega arith in h k (omega arith) ∙ ap (byte_at p) place) ∙ ap (filled p) e

length_from : (p : Pattern) (i n : ℕ) → length (filled_from p i n) ≡ n
unfolding filled_from
length_from p i zero = refl
length_from p i (suc n) = ap suc (length_from p (i + 1) n)

pub length-filled : (p : Pattern) (n : ℕ) → length (filled p n) ≡ n
length-filled p n = length_from p 0 n
