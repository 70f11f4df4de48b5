-- What parking and reading back answer and leave: document 02, Ask 6.
-- Assumes nothing.
use Rattle.std.specs.Prelude.{ℕ, cond, List, ◌≡◌, eqb, length, Option, Some, None}
use Rattle.gf128.specs.Running.{State, fresh, malformed}
use Rattle.ghash_state.specs.State.{view, spare_zeros}
use Rattle.ghash_state.specs.declared.Running.{Running}
use Rattle.ghash_parked.specs.declared.layout.Layout.{Layout}
use Rattle.ghash_parked.specs.Layout.{counts4, size, layout_of}
use Rattle.ghash_parked.specs.Record.{record_bytes, state_at, accepted}

-- ---- parked

-- 10: the running hash is malformed; 15: the buffer has another length than a record that is written
abbrev pub park_number : State → ℕ → ℕ
park_number s len = cond (malformed s) 10 (cond (eqb len (size counts4)) 0 15)

-- the buffer afterwards: the record, and on a refusal as it was
abbrev pub parked_into : State → List ℕ → List ℕ
parked_into s buffer = cond (eqb (park_number s (length buffer)) 0) (record_bytes counts4 s) buffer

-- ---- read back

-- the number of a reading, and the running hash that it gives
pub record Reading : Type 0 where
  pub number : ℕ
  pub state : State

-- 15, and a fresh running hash
abbrev pub refused : Reading
refused = record { number = 15; state = fresh }

abbrev pub read_as : Layout → List ℕ → Reading
read_as l bytes = cond (accepted l bytes) (record { number = 0; state = state_at l bytes }) refused

abbrev pub read_by : Option Layout → List ℕ → Reading
read_by (Some l) bytes = read_as l bytes
read_by None bytes = refused

-- what reading a record gives: its length tells the layout, and with none it is refused
abbrev pub unparked : List ℕ → Reading
unparked bytes = read_by (layout_of (length bytes)) bytes

-- a call that reads answers n and gives the running hash t, whose spare bytes are zeros
pub record Reads (r : Reading) (n : ℕ) (t : Running) : Type 0 where
  pub answer : n ≡ r.number
  pub state : view t ≡ r.state
  pub spare : t.spare ≡ spare_zeros
