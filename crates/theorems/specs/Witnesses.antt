-- Messages that demand 3 speaks of: whoever changes one byte of A or of C changes exactly one block, and any key with a byte that is not
-- zero is one of its keys. A condition added to `OneBlockChanged`, `IsMessage`, `DifferOnce` or `NonzeroKey` breaks this.
-- Assumes nothing.
use Rattle.std.specs.Prelude.{ℕ, ◌<◌, ◌≤◌, ◌≡◌, ◌≢◌, List, [], ◌∷◌, ◌++◌, length, get_or, set, replicate}
use Rattle.octets.specs.Bytes.{AreBytes}
use Rattle.theorems.specs.Changed.{NonzeroKey, OneBlockChanged}

-- any 16 bytes, one of them not zero, are a key that is not zero
abbrev pub AnyNonzeroKey : Type 0
AnyNonzeroKey = (key : List ℕ) (i : ℕ) → length key ≡ 16 → AreBytes key → i < 16 → get_or key i 0 ≢ 0 → NonzeroKey key

-- any A and C up to the limit, with byte i of A made another
abbrev pub AnyByteOfA : Type 0
AnyByteOfA =
    (a c : List ℕ) (i b : ℕ) → AreBytes a → AreBytes c → length a ≤ 1048576 → length c ≤ 1048576 → i < length a → b < 256
    → get_or a i 0 ≢ b → OneBlockChanged a c (set a i b) c

-- with byte i of C made another
abbrev pub AnyByteOfC : Type 0
AnyByteOfC =
    (a c : List ℕ) (i b : ℕ) → AreBytes a → AreBytes c → length a ≤ 1048576 → length c ≤ 1048576 → i < length c → b < 256
    → get_or c i 0 ≢ b → OneBlockChanged a c a (set c i b)

-- messages of bytes 01 that differ in one byte
pub record Witnesses : Type 0 where
  pub key : NonzeroKey (replicate 15 0 ++ (1 ∷ []))
  -- A's only block, with no C
  pub only_of_a : OneBlockChanged (1 ∷ []) [] (2 ∷ []) []
  -- C's last block, which is short
  pub last_of_c : OneBlockChanged (replicate 16 1) (replicate 20 1) (replicate 16 1) (replicate 19 1 ++ (2 ∷ []))
  -- a middle block of C, and one of A
  pub middle_of_c : OneBlockChanged (replicate 20 1) (replicate 40 1) (replicate 20 1) (replicate 16 1 ++ (2 ∷ replicate 23 1))
  pub middle_of_a : OneBlockChanged (replicate 40 1) (replicate 20 1) (replicate 16 1 ++ (2 ∷ replicate 23 1)) (replicate 20 1)
