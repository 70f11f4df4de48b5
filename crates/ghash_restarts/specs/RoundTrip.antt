-- Parking and reading undo each other, for readers.
-- Assumes nothing.
use Rattle.std.specs.Prelude.{ℕ, ◌^◌, ◌<◌, false, List, ◌≡◌, length}
use Rattle.octets.specs.Bytes.{AreBytes}
use Rattle.gf128.specs.Running.{State, malformed}
use Rattle.ghash_parked.specs.Park.{park_number, parked_into, unparked}

-- what the struct of a running hash always holds: a Y of 16 bytes, and an open block of 16
pub record Held (s : State) : Type 0 where
  pub y : s.y < 2 ^ 128
  pub block : length s.block ≡ 16

-- a running hash of any phase that is not malformed is parked, and read back as it was, whatever stood in the buffer
abbrev pub ParkedIsRead : Type 0
ParkedIsRead =
    (s : State) (buffer : List ℕ) → Held s → malformed s ≡ false → length buffer ≡ 48
    → (park_number s (length buffer) ≡ 0) × (unparked (parked_into s buffer) ≡ record { number = 0; state = s })

-- what an accepted record gives is parked again as the same bytes
abbrev pub ReadIsParked : Type 0
ReadIsParked =
    (bytes buffer : List ℕ) → AreBytes bytes → (unparked bytes).number ≡ 0 → length buffer ≡ 48
    → (park_number (unparked bytes).state (length buffer) ≡ 0) × (parked_into (unparked bytes).state buffer ≡ bytes)
