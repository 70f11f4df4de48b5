-- A number of one byte is that byte (`read-one`, `bytes-one`), and one of a few is under 256^4. Assumes nothing.
use Rattle.std.proofs.Common.{ℕ, List, [], ◌∷◌, ◌≡◌, get_or, refl, zero-mul, zero-add, mod-eq_of_lt, ◌^◌, ◌<◌, ◌≤◌, lt_of_lt_of_le, zero-lt-suc}
use native.Mathlib.Nat.{pow-le-pow_right}
use Rattle.octets.specs.Bytes.{AreBytes}
use Rattle.octets.specs.LittleEndian.{read_le, le_bytes}
use Rattle.octets.proofs.LittleEndian.{read-lt}

pub read-lt-at : (bytes : List ℕ) → AreBytes bytes → (at n most : ℕ) → n ≤ most → read_le bytes at n < 256 ^ most
read-lt-at bytes b at n most few = lt_of_lt_of_le (read-lt bytes at n b) (pow-le-pow_right (zero-lt-suc 255) few)

pub read-one : (bytes : List ℕ) (at : ℕ) → read_le bytes at 1 ≡ get_or bytes at 0
unfolding read_le
read-one bytes at = simp (zero-mul, zero-add)

pub bytes-one : (v : ℕ) → v < 256 → le_bytes 1 v ≡ v ∷ []
unfolding le_bytes
bytes-one v h = rw (mod-eq_of_lt h) refl
