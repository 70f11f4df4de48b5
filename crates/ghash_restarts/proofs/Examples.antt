-- The examples hold (`examples`): one test of an example, computed over the table, and one law that turns the test into what the example
-- says. Assumes nothing.
use Rattle.std.proofs.Common.{Bool, ◌&&◌, List, [], ◌∷◌, refl, ℕ, T, eqb, eqb→eq, replicate}
use Rattle.octets.specs.BigEndian.{be_at, be_bytes}
use Rattle.octets.specs.LittleEndian.{read_le, le_bytes}
use Rattle.gf128.specs.Running.{State, push, pushed, closed, started_c, fed_a, fed_c, finished}
use Rattle.gf128.proofs.Tests.{and_left, and_right}
use Rattle.ghash_parked.specs.Park.{Reading, park_number, parked_into, unparked}
use Rattle.ghash_parked.specs.Record.{record_bytes, state_at}
use Rattle.ghash_restarts.specs.Restarts.{after, fed, restart_numbers, restarted_run}
use Rattle.ghash_restarts.specs.Examples.{Example, parks, reads, refuses, runs, buffer, table, Holds, ExamplesHold}
use Rattle.theorems_examples.proofs.Examples.{same-list}
use Rattle.theorems_examples.proofs.Marked.{same, same_at}
use Rattle.theorems_examples.proofs.Rows.{all_right, all-show}

-- what a reading gives, in a row, but for the open block
abbrev numbers_of : Reading → List ℕ
numbers_of r = r.number ∷ r.state.y ∷ r.state.count_a ∷ r.state.count_c ∷ r.state.phase ∷ []

-- the counts and the phase, in a row
abbrev counts_of : State → List ℕ
counts_of s = s.count_a ∷ s.count_c ∷ s.phase ∷ []

right : Example → Bool
right (parks s n number after) = eqb (park_number s n) number && same (parked_into s (buffer n)) after
right (reads bytes s) =
    same (numbers_of (unparked bytes)) (0 ∷ s.y ∷ s.count_a ∷ s.count_c ∷ s.phase ∷ []) && same (unparked bytes).state.block s.block
right (refuses bytes) =
    same (numbers_of (unparked bytes)) (15 ∷ 0 ∷ 0 ∷ 0 ∷ 0 ∷ []) && same (unparked bytes).state.block (replicate 16 0)
right (runs key in_a in_c later numbers restarts count_a count_c phase) =
    same (restarted_run key in_a in_c later).run.numbers numbers
    && (same (restarted_run key in_a in_c later).restarts restarts
    && same (counts_of (restarted_run key in_a in_c later).run.state) (count_a ∷ count_c ∷ phase ∷ []))

shows : (e : Example) → T (right e) → Holds e
unfolding right
shows (parks s n number after) t =
    let a = eqb (park_number s n) number in
    let b = same (parked_into s (buffer n)) after in
    (eqb→eq (park_number s n) number (and_left a b t), same-list (parked_into s (buffer n)) after (and_right a b t))
shows (reads bytes s) t =
    let xs : List ℕ = 0 ∷ s.y ∷ s.count_a ∷ s.count_c ∷ s.phase ∷ [] in
    let a = same (numbers_of (unparked bytes)) xs in
    let b = same (unparked bytes).state.block s.block in
    let e = same_at (numbers_of (unparked bytes)) xs (and_left a b t) in
    (e 0, e 1, same-list (unparked bytes).state.block s.block (and_right a b t), e 2, e 3, e 4)
shows (refuses bytes) t =
    let xs : List ℕ = 15 ∷ 0 ∷ 0 ∷ 0 ∷ 0 ∷ [] in
    let a = same (numbers_of (unparked bytes)) xs in
    let b = same (unparked bytes).state.block (replicate 16 0) in
    let e = same_at (numbers_of (unparked bytes)) xs (and_left a b t) in
    (e 0, e 1, same-list (unparked bytes).state.block (replicate 16 0) (and_right a b t), e 2, e 3, e 4)
shows (runs key in_a in_c later numbers restarts count_a count_c phase) t =
    let r = restarted_run key in_a in_c later in
    let xs : List ℕ = count_a ∷ count_c ∷ phase ∷ [] in
    let a = same r.run.numbers numbers in
    let b = same r.restarts restarts in
    let c = same (counts_of r.run.state) xs in
    let u = and_right a (b && c) t in
    let e = same_at (counts_of r.run.state) xs (and_right b c u) in
    (same-list r.run.numbers numbers (and_left a (b && c) t), same-list r.restarts restarts (and_left b c u), e 0, e 1, e 2)

pub examples : ExamplesHold
unfolding table all_right right same be_at be_bytes read_le le_bytes push pushed closed started_c fed_a fed_c finished record_bytes state_at after fed restart_numbers restarted_run
examples = record { rows = refl; all = all-show Holds right shows table tt }
