-- Parking and reading undo each other: a record that is read is written again (`read-is-written`); so of the calls `parked-is-read`,
-- `read-is-parked`.
-- Assumes nothing.
use Rattle.std.proofs.Common.{ℕ, ◌+◌, Bool, true, false, cond, not, Some, None, List, ◌≡◌, refl, sym, ap, ◌∙◌, arith, eq-eqb, eqb-true, eqb, length, take, drop, replicate, length-drop, take_all}
use borrow.Author.Tests.{not-true}
use Rattle.octets.specs.Bytes.{AreBytes}
use Rattle.octets.specs.LittleEndian.{read_le, le_bytes}
use Rattle.octets.proofs.BigEndian.{be_bytes-read}
use Rattle.octets.proofs.LittleEndian.{le_bytes-read}
use Rattle.octets.proofs.Stores.{parts_join}
use Rattle.octets.proofs.Tests.{both}
use Rattle.gf128.specs.Bytes.{block_at, block_bytes}
use Rattle.gf128.specs.Running.{State, all_zero, malformed}
use Rattle.gf128.proofs.Parts.{zeros-all}
use Rattle.gf128.proofs.Running.{sound}
use Rattle.ghash_parked.specs.declared.layout.Layout.{Layout}
use Rattle.ghash_parked.specs.Layout.{counts4, at_y, at_block, at_count_a, at_count_c, at_phase, at_spare, size}
use Rattle.ghash_parked.specs.Record.{record_bytes, state_at, accepted}
use Rattle.ghash_parked.specs.Park.{Reading, refused, read_as, read_by, park_number, unparked}
use Rattle.ghash_restarts.specs.RoundTrip.{ParkedIsRead, ReadIsParked}
use Rattle.ghash_parked.proofs.Fields.{length-record_bytes, written-is-read, spare-zeros}

-- ---- read, then written

pub read-is-written : (l : Layout) (bytes : List ℕ) → AreBytes bytes → length bytes ≡ size l → all_zero (drop (at_spare l) bytes) ≡ true
    → record_bytes l (state_at l bytes) ≡ bytes
unfolding record_bytes state_at
read-is-written l bytes b e h =
    let n = l.count_bytes in
    let m = l.spare_bytes in
    let left : length (drop (at_spare l) bytes) ≡ m = omega (arith, length-drop (at_spare l) bytes) in
    let spare : replicate m 0 ≡ take m (drop (at_spare l) bytes) =
    sym (take_all m (drop (at_spare l) bytes) (omega arith) ∙ zeros-all (drop (at_spare l) bytes) h ∙ ap (λ (k : ℕ). replicate k 0) left) in
    parts_join 16 (16 + (n + (n + (1 + m)))) at_y at_block bytes (block_bytes (block_at bytes at_y)) _ (be_bytes-read 16 bytes at_y b (omega arith)) (omega arith)
    (parts_join 16 (n + (n + (1 + m))) at_block at_count_a bytes (take 16 (drop at_block bytes)) _ refl (omega arith)
    (parts_join n (n + (1 + m)) at_count_a (at_count_c l) bytes (le_bytes n (read_le bytes at_count_a n)) _ (le_bytes-read n bytes at_count_a b (omega arith)) (omega arith)
    (parts_join n (1 + m) (at_count_c l) (at_phase l) bytes (le_bytes n (read_le bytes (at_count_c l) n)) _ (le_bytes-read n bytes (at_count_c l) b (omega arith)) (omega arith)
    (parts_join 1 m (at_phase l) (at_spare l) bytes (le_bytes 1 (read_le bytes (at_phase l) 1)) _ (le_bytes-read 1 bytes (at_phase l) b (omega arith)) (omega arith) spare))))
    ∙ take_all (16 + (16 + (n + (n + (1 + m))))) bytes (omega arith)

-- ---- the calls

-- what is read of 48 bytes
as-counts4 : (bytes : List ℕ) → length bytes ≡ 48 → unparked bytes ≡ read_as counts4 bytes
as-counts4 bytes e = rw (eq-eqb (length bytes) 48 e)

pub parked-is-read : ParkedIsRead
parked-is-read s buffer held m e =
    let g = sound s m in
    let same : state_at counts4 (record_bytes counts4 s) ≡ s =
    written-is-read counts4 s held.block held.y (omega (arith, g.a_in)) (omega (arith, g.c-in)) (omega (arith, g.phase-in)) in
    let taken : park_number s (length buffer) ≡ 0 = rw (m, eq-eqb (length buffer) 48 e) in (
      taken,
      rw (eq-eqb (park_number s (length buffer)) 0 taken)
          (as-counts4 (record_bytes counts4 s) (length-record_bytes counts4 s held.block)
          ∙ rw (spare-zeros counts4 s held.block, same, m)),
    )

-- a record that is taken has 48 bytes, and passes the test
taken_is : (bytes : List ℕ) → (unparked bytes).number ≡ 0 → (length bytes ≡ 48) × (accepted counts4 bytes ≡ true)
taken_is bytes e = let t = go (eqb (length bytes) 48) e in (eqb-true (length bytes) 48 t.0, t.1)
  where
    passed : (s : State) (u : Bool) → (cond u (record { number = 0; state = s }) refused).number ≡ 0 → u ≡ true
    passed s true e = refl
    passed s false e = absurd (omega arith)

    go : (t : Bool) → (read_by (cond t (Some counts4) None) bytes).number ≡ 0 → (t ≡ true) × (accepted counts4 bytes ≡ true)
    go true e = (refl, passed (state_at counts4 bytes) (accepted counts4 bytes) e)
    go false e = absurd (omega arith)

pub read-is-parked : ReadIsParked
read-is-parked bytes buffer b e h =
    let t = taken_is bytes e in
    let u = both (all_zero (drop (at_spare counts4) bytes)) (not (malformed (state_at counts4 bytes))) t.1 in
    let m : malformed (state_at counts4 bytes) ≡ false = not-true (malformed (state_at counts4 bytes)) u.1 in
    let is : (unparked bytes).state ≡ state_at counts4 bytes = ap (λ (r : Reading). r.state) (as-counts4 bytes t.0) ∙ rw t.1 in
    rw (is, m, eq-eqb (length buffer) 48 h) (refl, read-is-written counts4 bytes b t.0 u.0)
