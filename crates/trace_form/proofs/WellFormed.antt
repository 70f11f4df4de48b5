-- The test of a trace holds exactly when its length is a multiple of 24 and all its policy bytes are at most 3.
-- Assumes nothing.
use Rattle.std.proofs.Common.{ℕ, zero, suc, ◌+◌, ◌*◌, ◌/◌, ◌%◌, ◌<◌, ◌≤◌, Bool, true, ◌&&◌, List, ◌≡◌, refl, sym, ap, subst, ◌∙◌, add-zero, zero-add, arith, eqb-true, eq-eqb, leb-true, le-leb, eqb, leb, length}
use Rattle.std.specs.List.{list_all, range_with_len}
use Rattle.octets.specs.LittleEndian.{read_le}
use Rattle.octets.proofs.Tests.{both}
use Rattle.trace_record.specs.Record.{record_at}
use Rattle.trace_form.specs.Form.{policies_from, well_formed, WellFormed, TestIsExact}

-- the policy byte of the record at a place
abbrev policy_at : List ℕ → ℕ → ℕ
policy_at trace at = (record_at trace at).policy

-- from a place on
policies-tell : (n : ℕ) (trace : List ℕ) (at : ℕ) → policies_from n trace at ≡ true → (i : ℕ) → i < n → policy_at trace (at + 24 * i) ≤ 3
unfolding policies_from
policies-tell zero trace at h i l = absurd (omega arith)
policies-tell (suc n) trace at h zero l = rw (add-zero at) (leb-true (policy_at trace at) 3 (both (leb (policy_at trace at) 3) (policies_from n trace (at + 24)) h).0)
policies-tell (suc n) trace at h (suc i) l =
    let e : at + 24 * suc i ≡ at + 24 + 24 * i = omega arith in
    let rest = (both (leb (policy_at trace at) 3) (policies_from n trace (at + 24)) h).1 in
    rw e (policies-tell n trace (at + 24) rest i (omega arith))

policies-told : (n : ℕ) (trace : List ℕ) (at : ℕ) → ((i : ℕ) → i < n → policy_at trace (at + 24 * i) ≤ 3) → policies_from n trace at ≡ true
unfolding policies_from
policies-told zero trace at h = refl
policies-told (suc n) trace at h =
    rw (le-leb (policy_at trace at) 3 (subst (λ (p : ℕ). policy_at trace p ≤ 3) (add-zero at) (h 0 (omega arith))))
    (policies-told n trace (at + 24) (λ i l. let e : at + 24 + 24 * i ≡ at + 24 * suc i = omega arith in rw e (h (suc i) (omega arith))))

-- from record i on, by the records' indices
pub policies-all : (n : ℕ) (trace : List ℕ) (i : ℕ)
    → list_all (λ (k : ℕ). leb (read_le trace (24 * k + 7) 1) 3) (range_with_len i n) ≡ policies_from n trace (24 * i)
unfolding policies_from record_at
policies-all zero trace i = refl
policies-all (suc n) trace i =
    let next : 24 * (i + 1) ≡ 24 * i + 24 = omega arith in
    ap (λ (b : Bool). leb (read_le trace (24 * i + 7) 1) 3 && b)
    (policies-all n trace (i + 1) ∙ ap (λ (at : ℕ). policies_from n trace at) next)

tells : (trace : List ℕ) → well_formed trace ≡ true → WellFormed trace
unfolding well_formed
tells trace h =
    let p = both (eqb (length trace % 24) 0) (policies_from (length trace / 24) trace 0) h in
    record {
      whole = eqb-true (length trace % 24) 0 p.0;
      policies = λ i l. subst (λ (p : ℕ). policy_at trace p ≤ 3) (zero-add (24 * i)) (policies-tell (length trace / 24) trace 0 p.1 i l);
    }

told : (trace : List ℕ) → WellFormed trace → well_formed trace ≡ true
unfolding well_formed
told trace w =
    rw (eq-eqb (length trace % 24) 0 w.whole)
    (policies-told (length trace / 24) trace 0 (λ i l. subst (λ (p : ℕ). policy_at trace p ≤ 3) (sym (zero-add (24 * i))) (w.policies i l)))

pub test-is-exact : TestIsExact
test-is-exact trace = (tells trace, told trace)
