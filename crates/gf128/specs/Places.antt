-- Document 01's sentences on the places of a block ("The field and the hash"), as statements on the definitions of Field: where a
-- coefficient stands in the bytes, and what one step of V, times x, does to each place.
-- Assumes nothing.
use Rattle.std.specs.Prelude.{ℕ, zero, suc, ◌+◌, ◌-◌, ◌/◌, ◌%◌, ◌^◌, ◌<◌, ◌≡◌, Bool, cond, ◌&&◌, ◌||◌, List, eqb, get_or}
use Rattle.octets.specs.Bytes.{AreBytes}
use Rattle.gf128.specs.Bytes.{block_at}
use Rattle.gf128.specs.Field.{coefficient, times_x}

-- bit j of a byte, bit 0 the lowest
abbrev pub bit : ℕ → ℕ → ℕ
bit j b = b / 2 ^ j % 2

-- "Coefficient k of a block is bit 7-(k mod 8) of byte k div 8": of the block in the 16 bytes from `at` on
abbrev pub CoefficientsAreBits : Type 0
CoefficientsAreBits =
    (s : List ℕ) → AreBytes s → (at k : ℕ) → k < 128 → coefficient (block_at s at) k ≡ bit (7 - k % 8) (get_or s (at + k / 8) 0)

-- "every coefficient of V moves one place up, place 0 gets 0": what then stands at place k
abbrev pub moved_up : ℕ → ℕ → ℕ
moved_up v zero = 0
moved_up v (suc k) = coefficient v k

-- "places 0, 1, 2 and 7"
abbrev pub flips : ℕ → Bool
flips k = eqb k 0 || (eqb k 1 || (eqb k 2 || eqb k 7))

-- "and if the one from place 127 was 1, those now at places 0, 1, 2 and 7 are flipped"
abbrev pub TimesXByPlaces : Type 0
TimesXByPlaces =
    (v k : ℕ) → v < 2 ^ 128 → k < 128
    → coefficient (times_x v) k ≡ cond (eqb (coefficient v 127) 1 && flips k) (1 - moved_up v k) (moved_up v k)
