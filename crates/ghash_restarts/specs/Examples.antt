-- Examples of parking and of reading back, as one table with one statement, `ExamplesHold`: the bytes of records of each phase, and both sides of
-- every limit. A rule that is changed here or there no longer fits its row.
-- Assumes nothing.
use Rattle.std.specs.Prelude.{ℕ, ◌-◌, ◌≡◌, List, [], ◌∷◌, ◌++◌, length, set, replicate, take}
use Rattle.gf128.specs.Running.{State}
use Rattle.ghash_parked.specs.Park.{park_number, parked_into, unparked}
use Rattle.ghash_restarts.specs.Restarts.{Event, piece, restart, restarted_run}
use Rattle.theorems_examples.specs.Rows.{AllHold}

-- an open block: n bytes 0x10, 0x11 and so on, then zeros
abbrev pub opened : ℕ → List ℕ
opened n =
    take n (0x10 ∷ 0x11 ∷ 0x12 ∷ 0x13 ∷ 0x14 ∷ 0x15 ∷ 0x16 ∷ 0x17 ∷ 0x18 ∷ 0x19 ∷ 0x1A ∷ 0x1B ∷ 0x1C ∷ 0x1D ∷ 0x1E ∷ 0x1F ∷ [])
    ++ replicate (16 - n) 0

-- a running hash whose Y has the bytes 00 to 0F
abbrev pub numbered : (n count_a count_c phase : ℕ) → State
numbered n count_a count_c phase =
    record { y = 0x000102030405060708090A0B0C0D0E0F; block = opened n; count_a = count_a; count_c = count_c; phase = phase }

-- its record, the bytes from the counts on written out
abbrev pub bytes_with : ℕ → List ℕ → List ℕ
bytes_with n later =
    0 ∷ 1 ∷ 2 ∷ 3 ∷ 4 ∷ 5 ∷ 6 ∷ 7 ∷ 8 ∷ 9 ∷ 0x0A ∷ 0x0B ∷ 0x0C ∷ 0x0D ∷ 0x0E ∷ 0x0F ∷ opened n ++ later

-- records of each phase: of 19 bytes of A; of 0x0A0B0C bytes of A and 0x0D0E05 of C; of these, finished
abbrev pub phase0 : List ℕ
phase0 = bytes_with 3 (0x13 ∷ 0 ∷ 0 ∷ 0 ∷ 0 ∷ 0 ∷ 0 ∷ 0 ∷ 0 ∷ 0 ∷ 0 ∷ 0 ∷ 0 ∷ 0 ∷ 0 ∷ 0 ∷ [])

abbrev pub phase1 : List ℕ
phase1 = bytes_with 5 (0x0C ∷ 0x0B ∷ 0x0A ∷ 0 ∷ 0x05 ∷ 0x0E ∷ 0x0D ∷ 0 ∷ 1 ∷ 0 ∷ 0 ∷ 0 ∷ 0 ∷ 0 ∷ 0 ∷ 0 ∷ [])

abbrev pub phase2 : List ℕ
phase2 = bytes_with 0 (0x0C ∷ 0x0B ∷ 0x0A ∷ 0 ∷ 0x05 ∷ 0x0E ∷ 0x0D ∷ 0 ∷ 2 ∷ 0 ∷ 0 ∷ 0 ∷ 0 ∷ 0 ∷ 0 ∷ 0 ∷ [])

-- a buffer of n bytes
abbrev pub buffer : ℕ → List ℕ
buffer n = replicate n 0xA5

pub data Example : Type 0 where
  -- a running hash, the length of a buffer, and the number and the buffer after it is parked
  parks : (s : State) → (n number : ℕ) → (after : List ℕ) → Example
  -- a record that is taken, and the running hash that it gives
  reads : (bytes : List ℕ) → (s : State) → Example
  -- a record that is refused: 15, and a running hash of zeros
  refuses : (bytes : List ℕ) → Example
  -- a key, pieces and restarts of A and of C, restarts after the finish, and the numbers of the calls, those of the restarts, and both counts
  -- and the phase at the end
  runs : (key : List ℕ) → (in_a in_c : List Event) → (later : List (List ℕ)) → (numbers restarts : List ℕ) → (count_a count_c phase : ℕ) → Example

-- what an example says
abbrev pub Holds : Example → Type 0
Holds (parks s n number after) = (park_number s n ≡ number) × (parked_into s (buffer n) ≡ after)
Holds (reads bytes s) =
    ((unparked bytes).number ≡ 0) × ((unparked bytes).state.y ≡ s.y) × ((unparked bytes).state.block ≡ s.block)
    × ((unparked bytes).state.count_a ≡ s.count_a) × ((unparked bytes).state.count_c ≡ s.count_c) × ((unparked bytes).state.phase ≡ s.phase)
Holds (refuses bytes) =
    ((unparked bytes).number ≡ 15) × ((unparked bytes).state.y ≡ 0) × ((unparked bytes).state.block ≡ replicate 16 0)
    × ((unparked bytes).state.count_a ≡ 0) × ((unparked bytes).state.count_c ≡ 0) × ((unparked bytes).state.phase ≡ 0)
Holds (runs key in_a in_c later numbers restarts count_a count_c phase) =
    ((restarted_run key in_a in_c later).run.numbers ≡ numbers) × ((restarted_run key in_a in_c later).restarts ≡ restarts)
    × ((restarted_run key in_a in_c later).run.state.count_a ≡ count_a) × ((restarted_run key in_a in_c later).run.state.count_c ≡ count_c)
    × ((restarted_run key in_a in_c later).run.state.phase ≡ phase)

unfoldable pub table : List Example
table =
    -- parked in each phase, a fresh one too; each field at its place, counts low byte first
    parks (numbered 3 19 0 0) 48 0 phase0
    ∷ parks (numbered 5 0x0A0B0C 0x0D0E05 1) 48 0 phase1
    ∷ parks (numbered 0 0x0A0B0C 0x0D0E05 2) 48 0 phase2
    ∷ parks (record { y = 0; block = replicate 16 0; count_a = 0; count_c = 0; phase = 0 }) 48 0 (replicate 48 0)
    -- Y of ones bits
    ∷ parks (record { y = 0xFFFFFFFFFFFFFFFFFFFFFFFFFFFFFFFF; block = replicate 16 0; count_a = 0; count_c = 0; phase = 0 }) 48 0 (replicate 16 0xFF ++ replicate 32 0)
    -- 15: the buffer's length
    ∷ parks (numbered 3 19 0 0) 0 15 (buffer 0)
    ∷ parks (numbered 3 19 0 0) 47 15 (buffer 47)
    ∷ parks (numbered 3 19 0 0) 49 15 (buffer 49)
    ∷ parks (numbered 3 19 0 0) 64 15 (buffer 64)
    -- 10: each clause of malformed, at and over its limit
    ∷ parks (numbered 0 0x100000 0 0) 48 0 (bytes_with 0 (0 ∷ 0 ∷ 0x10 ∷ 0 ∷ 0 ∷ 0 ∷ 0 ∷ 0 ∷ 0 ∷ replicate 7 0))
    ∷ parks (numbered 0 0x100001 0 0) 48 10 (buffer 48)
    ∷ parks (numbered 0 0 0x100000 1) 48 0 (bytes_with 0 (0 ∷ 0 ∷ 0 ∷ 0 ∷ 0 ∷ 0 ∷ 0x10 ∷ 0 ∷ 1 ∷ replicate 7 0))
    ∷ parks (numbered 0 0 0x100001 1) 48 10 (buffer 48)
    ∷ parks (numbered 0 0 0 3) 48 10 (buffer 48)
    ∷ parks (numbered 0 0 1 0) 48 10 (buffer 48)
    ∷ parks (numbered 4 19 0 0) 48 10 (buffer 48)
    ∷ parks (numbered 6 0x0A0B0C 0x0D0E05 1) 48 10 (buffer 48)
    ∷ parks (numbered 1 0x0A0B0C 0x0D0E05 2) 48 10 (buffer 48)
    -- 10 comes before 15
    ∷ parks (numbered 0 0 0 3) 47 10 (buffer 47)
    -- read back in each phase
    ∷ reads phase0 (numbered 3 19 0 0)
    ∷ reads phase1 (numbered 5 0x0A0B0C 0x0D0E05 1)
    ∷ reads phase2 (numbered 0 0x0A0B0C 0x0D0E05 2)
    ∷ reads (replicate 48 0) (record { y = 0; block = replicate 16 0; count_a = 0; count_c = 0; phase = 0 })
    ∷ reads (replicate 16 0xFF ++ replicate 32 0) (record { y = 0xFFFFFFFFFFFFFFFFFFFFFFFFFFFFFFFF; block = replicate 16 0; count_a = 0; count_c = 0; phase = 0 })
    -- 15: the record's length
    ∷ refuses []
    ∷ refuses (take 47 phase0)
    ∷ refuses (phase0 ++ (0 ∷ []))
    ∷ refuses (phase0 ++ replicate 16 0)
    -- 15: each spare byte
    ∷ refuses (set phase0 41 1)
    ∷ refuses (set phase0 42 1)
    ∷ refuses (set phase0 43 1)
    ∷ refuses (set phase0 44 1)
    ∷ refuses (set phase0 45 1)
    ∷ refuses (set phase0 46 1)
    ∷ refuses (set phase0 47 1)
    ∷ refuses (set phase0 47 0x80)
    -- 15: the phase
    ∷ refuses (set phase2 40 3)
    ∷ refuses (set phase2 40 255)
    -- 15: a count over the limit, by its first and by its last byte, and at it
    ∷ reads (set (set (set phase2 32 0) 33 0) 34 0x10) (numbered 0 0x100000 0x0D0E05 2)
    ∷ refuses (set (set (set phase2 32 1) 33 0) 34 0x10)
    ∷ refuses (set phase2 35 1)
    ∷ reads (set (set (set phase2 36 0) 37 0) 38 0x10) (numbered 0 0x0A0B0C 0x100000 2)
    ∷ refuses (set (set (set phase2 36 1) 37 0) 38 0x10)
    ∷ refuses (set phase2 39 1)
    -- 15: in phase 0 a C count that isn't 0, by its first and by its last byte
    ∷ refuses (set phase0 36 1)
    ∷ refuses (set phase0 39 1)
    -- 15: an open byte that isn't zero at or after the count of the current part modulo 16; in phase 2, at any place
    ∷ refuses (set phase0 19 1)
    ∷ refuses (set phase0 31 1)
    ∷ reads (set phase0 32 0x14) (numbered 3 20 0 0)
    ∷ refuses (set phase0 32 0x12)
    ∷ refuses (set phase1 21 1)
    ∷ refuses (set phase1 36 4)
    ∷ refuses (set phase2 16 1)
    ∷ refuses (set phase2 31 1)
    -- a run with restarts before, between and after its calls; the same into 47 bytes, where nothing is parked and what is read is refused
    ∷ runs (0x80 ∷ replicate 15 0) (restart (buffer 48) ∷ piece (1 ∷ 2 ∷ []) ∷ []) (restart (buffer 48) ∷ piece (3 ∷ []) ∷ restart (buffer 48) ∷ restart (replicate 48 0) ∷ [])
    (buffer 48 ∷ []) (0 ∷ 0 ∷ 0 ∷ []) (replicate 10 0) 2 1 2
    ∷ runs (0x80 ∷ replicate 15 0) (piece (1 ∷ 2 ∷ []) ∷ []) (restart (buffer 47) ∷ piece (3 ∷ []) ∷ []) [] (0 ∷ 0 ∷ 0 ∷ []) (15 ∷ 15 ∷ []) 0 1 2
    -- a key of 15 bytes: every call is refused, and the restarts are taken
    ∷ runs (replicate 15 0) (piece (1 ∷ []) ∷ restart (buffer 48) ∷ []) (piece (2 ∷ []) ∷ []) (buffer 48 ∷ []) (9 ∷ 9 ∷ 9 ∷ []) (replicate 4 0) 0 0 0
    ∷ []

-- the statement: the rows are so many, and all of them hold
pub record ExamplesHold : Type 0 where
  pub rows : length table ≡ 57
  pub all : AllHold Holds table
