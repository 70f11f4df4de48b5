-- Two parts that are done, one after the other, are the whole.
-- Assumes nothing.
use Rattle.std.proofs.Common.{ℕ, zero, suc, ◌+◌, ◌-◌, ◌*◌, ◌<◌, ◌≤◌, List, ◌++◌, ◌≡◌, refl, sym, ap, ap₂, subst, ◌∙◌, add-zero, add-suc, arith, length, length-append, Ok}
use native.Mathlib.Decide.{dec_lt}
use Rattle.trace_record.proofs.Same.{record-within, record-after}
use Rattle.trace_replay.specs.Replay.{called, Outcome}
use Rattle.trace_replay.specs.Meaning.{record_of, file_after, IsOurs, Means, DoneInParts}
use Rattle.trace_replay.proofs.Meaning.{replay-means, one-meaning}

module _ (s t : List ℕ) (m : ℕ) (e : length s ≡ 24 * m) where
  -- record i of the first part, and record k of the second
  first : (i : ℕ) → i < m → record_of (s ++ t) i ≡ record_of s i
  first i l = record-within s t (24 * i) (omega arith)

  second : (k : ℕ) → record_of (s ++ t) (m + k) ≡ record_of t k
  second k = let p : 24 * (m + k) ≡ length s + 24 * k = omega arith in rw p (record-after s t (24 * k))

  module _ (vlen : ℕ) (file : List ℕ) where
    file-first : (i : ℕ) → i ≤ m → file_after vlen (s ++ t) i file ≡ file_after vlen s i file
    unfolding file_after
    file-first zero l = refl
    file-first (suc i) l = ap₂ (called vlen) (first i (omega arith)) (file-first i (omega arith))

    file-second : (k : ℕ) → file_after vlen (s ++ t) (m + k) file ≡ file_after vlen t k (file_after vlen s m file)
    unfolding file_after
    file-second zero = ap (λ (n : ℕ). file_after vlen (s ++ t) n file) (add-zero m) ∙ file-first m (omega arith)
    file-second (suc k) =
        ap (λ (n : ℕ). file_after vlen (s ++ t) n file) (add-suc m k) ∙ ap₂ (called vlen) (second k) (file-second k)

    ours-first : (i : ℕ) → i < m → IsOurs vlen file s i → IsOurs vlen file (s ++ t) i
    ours-first i l h = rw (first i l, file-first i (omega arith)) h

    ours-second : (k : ℕ) → IsOurs vlen (file_after vlen s m file) t k → IsOurs vlen file (s ++ t) (m + k)
    ours-second k h = rw (second k, file-second k) h

pub done-in-parts : DoneInParts
done-in-parts vlen m n file middle last s t p q =
    sym (one-meaning vlen file (s ++ t) (record { answer = Ok (m + n); file = last })
    (record { whole = omega (arith, both); policies = λ i l. policies i (dec_lt i m) (omega (arith, both)) }, omega (arith, both), (λ i l. ours i (dec_lt i m) l), end))
  where
    one : Means vlen file s (Ok m) middle
    one = subst (λ (o : Outcome). Means vlen file s o.answer o.file) p (replay-means vlen file s)

    two : Means vlen middle t (Ok n) last
    two = subst (λ (o : Outcome). Means vlen middle t o.answer o.file) q (replay-means vlen middle t)

    long : length s ≡ 24 * m
    long = omega (arith, one.0.whole, one.1)

    both : length (s ++ t) ≡ 24 * (m + n)
    both = omega (arith, length-append s t, one.0.whole, one.1, two.0.whole, two.1)

    -- an index past the first part
    past : (i : ℕ) → (i < m → ⊥) → m + (i - m) ≡ i
    past i f = omega (arith, f)

    policies : (i : ℕ) → Dec (i < m) → i < m + n → (record_of (s ++ t) i).policy ≤ 3
    policies i (yes l) h = rw (first s t m long i l) (one.0.policies i (omega (arith, one.1)))
    policies i (no f) h =
        subst (λ (k : ℕ). (record_of (s ++ t) k).policy ≤ 3) (past i f)
        (rw (second s t m long (i - m)) (two.0.policies (i - m) (omega (arith, f, two.1))))

    ours : (i : ℕ) → Dec (i < m) → i < m + n → IsOurs vlen file (s ++ t) i
    ours i (yes l) h = ours-first s t m long vlen file i l (one.2 i l)
    ours i (no f) h =
        subst (IsOurs vlen file (s ++ t)) (past i f)
        (ours-second s t m long vlen file (i - m) (subst (λ (g : List ℕ). IsOurs vlen g t (i - m)) one.3 (two.2 (i - m) (omega (arith, f)))))

    end : last ≡ file_after vlen (s ++ t) (m + n) file
    end = two.3 ∙ ap (file_after vlen t n) one.3 ∙ sym (file-second s t m long vlen file n)
