-- What replay answers means what readers are told, and nothing else does.
-- Assumes nothing.
use Rattle.std.proofs.Common.{ℕ, zero, suc, ◌+◌, ◌*◌, ◌/◌, ◌<◌, Bool, true, false, true≢false, cond, List, ◌≡◌, refl, sym, ap, ap₂, subst, ◌∙◌, zero-add, arith, eqb-true, length, Ok, Err}
use native.Mathlib.Decide.{dec_lt, ℕ_discrete}
use borrow.Author.Tests.{eqb-false}
use Rattle.trace_record.specs.declared.Record.{Record}
use Rattle.trace_record.specs.Record.{records_from}
use Rattle.trace_form.specs.Form.{well_formed, WellFormed}
use Rattle.trace_form.proofs.WellFormed.{test-is-exact}
use Rattle.trace_replay.specs.declared.Stopped.TheVariants.{Differs, Refused}
use Rattle.trace_replay.specs.Replay.{ours, called, agrees, Replayed, Outcome, replay_from, replayed}
use Rattle.trace_replay.specs.Meaning.{count, record_of, file_after, IsOurs, OursBefore, Means, ReplayMeans, OneMeaning}

-- ---- the answer means what it says

-- an outcome means it
abbrev Meant : ℕ → List ℕ → List ℕ → Outcome → Type 0
Meant vlen file trace o = Means vlen file trace o.answer o.file

-- one more
one_more : (vlen : ℕ) (file trace : List ℕ) (i : ℕ) → OursBefore vlen file trace i → IsOurs vlen file trace i → OursBefore vlen file trace (suc i)
one_more vlen file trace i before e j l = go (ℕ_discrete j i)
  where
    go : Dec (j ≡ i) → IsOurs vlen file trace j
    go (yes p) = subst (IsOurs vlen file trace) (sym p) e
    go (no f) = before j (omega (arith, f))

-- from record i on, with n left
from : (vlen n i : ℕ) (file trace : List ℕ) → WellFormed trace → i + n ≡ count trace → OursBefore vlen file trace i
    → Meant vlen file trace (replay_from vlen (records_from n trace (24 * i)) i (file_after vlen trace i file))
unfolding replay_from records_from file_after
from vlen zero i file trace w e before = (w, omega arith, before, refl)
from vlen (suc n) i file trace w e before =
    let place : 24 * suc i ≡ 24 * i + 24 = omega arith in
    let index : suc i ≡ i + 1 = omega arith in
    go (agrees vlen r f) refl (λ h.
    subst (Meant vlen file trace) (ap₂ (λ (at k : ℕ). replay_from vlen (records_from n trace at) k (called vlen r f)) place index)
    (from vlen n (suc i) file trace w (omega arith) (one_more vlen file trace i before h)))
  where
    r : Record
    r = record_of trace i

    f : List ℕ
    f = file_after vlen trace i file

    next : Outcome
    next = replay_from vlen (records_from n trace (24 * i + 24)) (i + 1) (called vlen r f)

    go : (b : Bool) → agrees vlen r f ≡ b → (IsOurs vlen file trace i → Meant vlen file trace next)
        → Meant vlen file trace (cond b next (record { answer = Err (Differs i); file = f }))
    go true h on = on (eqb-true (ours vlen r f) r.answer h)
    go false h on = (w, omega arith, before, eqb-false (ours vlen r f) r.answer h, refl)

pub replay-means : ReplayMeans
unfolding replayed file_after
replay-means vlen file trace = go (well_formed trace) refl
  where
    all : Outcome
    all = replay_from vlen (records_from (length trace / 24) trace 0) 0 file

    go : (b : Bool) → well_formed trace ≡ b → Meant vlen file trace (cond b all (record { answer = Err Refused; file = file }))
    go true h = from vlen (length trace / 24) 0 file trace ((test-is-exact trace).0 h) (zero-add (length trace / 24)) (λ i l. absurd (omega arith))
    go false h = (λ w. true≢false (sym ((test-is-exact trace).1 w) ∙ h), refl)

-- ---- and no other does

one : (vlen : ℕ) (file trace : List ℕ) (a b : Replayed) (f g : List ℕ) → Means vlen file trace a f → Means vlen file trace b g → (a ≡ b) × (f ≡ g)
one vlen file trace (Ok n) (Ok m) f g p q =
    let e : n ≡ m = p.1 ∙ sym q.1 in
    (ap Ok e, p.3 ∙ ap (λ (k : ℕ). file_after vlen trace k file) e ∙ sym q.3)
one vlen file trace (Ok n) (Err (Differs i)) f g p q = absurd (q.3 (p.2 i (omega (arith, q.1, p.1))))
one vlen file trace (Ok n) (Err Refused) f g p q = absurd (q.0 p.0)
one vlen file trace (Err (Differs i)) (Ok m) f g p q = absurd (p.3 (q.2 i (omega (arith, p.1, q.1))))
one vlen file trace (Err (Differs i)) (Err (Differs j)) f g p q = go (dec_lt i j) (dec_lt j i)
  where
    go : Dec (i < j) → Dec (j < i) → (◌≡◌ {A = Replayed} (Err (Differs i)) (Err (Differs j))) × (f ≡ g)
    go (yes l) d = absurd (p.3 (q.2 i l))
    go (no k) (yes l) = absurd (q.3 (p.2 j l))
    go (no k) (no l) =
        let e : i ≡ j = omega (arith, k, l) in
        (ap (λ (k : ℕ). Err (Differs k)) e, p.4 ∙ ap (λ (n : ℕ). file_after vlen trace n file) e ∙ sym q.4)
one vlen file trace (Err (Differs i)) (Err Refused) f g p q = absurd (q.0 p.0)
one vlen file trace (Err Refused) (Ok m) f g p q = absurd (p.0 q.0)
one vlen file trace (Err Refused) (Err (Differs j)) f g p q = absurd (p.0 q.0)
one vlen file trace (Err Refused) (Err Refused) f g p q = (refl, p.1 ∙ sym q.1)

pub one-meaning : OneMeaning
one-meaning vlen file trace o m =
    let r = replayed vlen file trace in
    let e = one vlen file trace o.answer r.answer o.file r.file m (replay-means vlen file trace) in
    λ i. record { answer = e.0 i; file = e.1 i }
