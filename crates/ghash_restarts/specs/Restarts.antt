-- A run on a box that restarts: between its calls the running hash is parked and read back, any number of times. For readers.
-- The calls of the plain and of the fast path are proved equal to these definitions, so each call of a run may take either path.
-- Assumes nothing.
use Rattle.std.specs.Prelude.{ℕ, true, List, [], ◌∷◌, ◌++◌, map, ◌≡◌, length}
use Rattle.octets.specs.Bytes.{AreBytes}
use Rattle.gf128.specs.Pieces.{Run, run_of}
use Rattle.gf128.specs.Running.{State, fresh, all_zero, feed_a_refusal, feed_c_refusal, finish_refusal, after_feed_a, after_feed_c, after_finish, finish_block}
use Rattle.ghash_parked.specs.Park.{park_number, parked_into, unparked}

-- a piece is fed, or the running hash is parked into a buffer and read back from it
pub data Event : Type 0 where
  piece : List ℕ → Event
  restart : List ℕ → Event

-- the pieces alone
unfoldable pub pieces : List Event → List (List ℕ)
pieces [] = []
pieces (piece p ∷ es) = p ∷ pieces es
pieces (restart buffer ∷ es) = pieces es

-- each buffer is 48 bytes long; what stands in it is free
abbrev pub Buffers : List Event → Type 0
Buffers [] = Unit {0}
Buffers (piece p ∷ es) = Buffers es
Buffers (restart buffer ∷ es) = (length buffer ≡ 48) × Buffers es

-- the running hash after a restart
abbrev pub restarted : State → List ℕ → State
restarted s buffer = (unparked (parked_into s buffer)).state

-- the state after these events
unfoldable pub after : (State → List ℕ → State) → State → List Event → State
after feed s [] = s
after feed s (piece p ∷ es) = after feed (feed s p) es
after feed s (restart buffer ∷ es) = after feed (restarted s buffer) es

-- the number that each piece is answered with
unfoldable pub fed : (State → List ℕ → ℕ) → (State → List ℕ → State) → State → List Event → List ℕ
fed number feed s [] = []
fed number feed s (piece p ∷ es) = number s p ∷ fed number feed (feed s p) es
fed number feed s (restart buffer ∷ es) = fed number feed (restarted s buffer) es

-- the two numbers of each restart: of parking, and of reading back
unfoldable pub restart_numbers : (State → List ℕ → State) → State → List Event → List ℕ
restart_numbers feed s [] = []
restart_numbers feed s (piece p ∷ es) = restart_numbers feed (feed s p) es
restart_numbers feed s (restart buffer ∷ es) =
    park_number s (length buffer) ∷ (unparked (parked_into s buffer)).number ∷ restart_numbers feed (restarted s buffer) es

-- what a run gives, and the numbers of its restarts
pub record RestartedRun : Type 0 where
  pub run : Run
  pub restarts : List ℕ

-- A and C with restarts anywhere in them, then the finish, then a restart for each of the later buffers
unfoldable pub restarted_run : List ℕ → (in_a in_c : List Event) → (later : List (List ℕ)) → RestartedRun
restarted_run key in_a in_c later =
    let a = after (after_feed_a key) fresh in_a in
    let c = after (after_feed_c key) a in_c in
    let e = after_finish key c in
    record {
      run = record {
        numbers = fed (feed_a_refusal key) (after_feed_a key) fresh in_a ++ (fed (feed_c_refusal key) (after_feed_c key) a in_c ++ (finish_refusal key c ∷ []));
        block = finish_block key c;
        state = after (after_feed_c key) e (map restart later);
      };
      restarts =
          restart_numbers (after_feed_a key) fresh in_a
          ++ (restart_numbers (after_feed_c key) a in_c
          ++ restart_numbers (after_feed_c key) e (map restart later));
    }

-- for every key and all pieces, refused ones too: each restart is taken, and the run has the numbers, the hash and the last state that it
-- has without restarts
abbrev pub SameRun : Type 0
SameRun =
    (key : List ℕ) (in_a in_c : List Event) (later : List (List ℕ)) → AreBytes key → Buffers in_a → Buffers in_c → Buffers (map restart later)
    → ((restarted_run key in_a in_c later).run ≡ run_of key (pieces in_a) (pieces in_c)) × (all_zero (restarted_run key in_a in_c later).restarts ≡ true)

-- which runs that speaks of: those of any pieces and any buffers of 48 bytes
abbrev pub AnyBuffers : Type 0
AnyBuffers =
    Buffers [] × ((p buffer : List ℕ) (es : List Event) → length buffer ≡ 48 → Buffers es → Buffers (piece p ∷ es) × Buffers (restart buffer ∷ es))
