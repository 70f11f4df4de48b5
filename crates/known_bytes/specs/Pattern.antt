-- Bytes that can be made again: byte i is (step · i + first) mod modulus, as it comes out on u64 numbers.
-- Assumes nothing.
use Rattle.std.specs.Prelude.{ℕ, zero, suc, ◌+◌, ◌%◌, ◌^◌, cond, List, [], ◌∷◌, ◌==◌}
use Rattle.known_bytes.specs.declared.pattern.Pattern.{Pattern}

-- the number after b
abbrev pub next_of : Pattern → ℕ → ℕ
next_of p b = cond (p.2 == 0) 0 ((b + p.1) % 2 ^ 64 % p.2)

unfoldable pub number_at : Pattern → ℕ → ℕ
number_at p zero = p.0
number_at p (suc i) = next_of p (number_at p i)

abbrev pub byte_at : Pattern → ℕ → ℕ
byte_at p i = number_at p i % 256

-- n bytes of the pattern, from byte i on
unfoldable pub filled_from : Pattern → ℕ → ℕ → List ℕ
filled_from p i zero = []
filled_from p i (suc n) = byte_at p i ∷ filled_from p (i + 1) n

-- n bytes that `fill` leaves
abbrev pub filled : Pattern → ℕ → List ℕ
filled p n = filled_from p 0 n
