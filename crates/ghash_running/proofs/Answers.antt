-- What a call of the running hash promises, once its number is known: refused or taken.
-- Assumes nothing.
use Rattle.std.proofs.Common.{◌≡◌, refl, sym, ap, ◌∙◌, ℕ, ◌+◌, List, length, cond, eqb, ltb, Result, Ok, Err, IsErrAnd, arith}
use borrow.Author.Tests.{eq-eqb, ne_eqb}
use Rattle.gf128.specs.Hash.{limit}
use Rattle.gf128.specs.Running.{State, feed_a_refusal, feed_c_refusal, finish_refusal}
use Rattle.gf128.proofs.Running.{open-call, well-formed}
use Rattle.ghash_state.specs.State.{view, spare_zeros}
use Rattle.ghash_state.specs.declared.Running.{Running}
use Rattle.ghash_running.specs.Answers.{Updates, state_after}
use Rattle.refusal.specs.Refusal.{number, number_of}
use Rattle.refusal.specs.declared.Refusal.{Refusal}
use Rattle.refusal.specs.declared.Refusal.TheVariants.{BadVlenOrFile, NotAWord, BadSettings, SewNot32, NotMultipleOf4, BadGroup, KeyOverlap, MaskOverlap, Not16Bytes, BadRunning, TooLong, NoneExists, ManyExist, BadTrace, BadParked, BadLinks, ShortText}

-- no refusal has the number of a call that is done
pub not_done : (e : Refusal) → number e ≡ 0 → ⊥
not_done BadVlenOrFile z = omega arith
not_done NotAWord z = omega arith
not_done BadSettings z = omega arith
not_done SewNot32 z = omega arith
not_done NotMultipleOf4 z = omega arith
not_done BadGroup z = omega arith
not_done KeyOverlap z = omega arith
not_done MaskOverlap z = omega arith
not_done Not16Bytes z = omega arith
not_done BadRunning z = omega arith
not_done TooLong z = omega arith
not_done NoneExists z = omega arith
not_done ManyExist z = omega arith
not_done BadTrace z = omega arith
not_done BadParked z = omega arith
not_done BadLinks z = omega arith
not_done ShortText z = omega arith

-- a call that is open to the running hash is refused by the limit alone
module _ (key : List ℕ) (s : State) (piece : List ℕ) (open_to : finish_refusal key s ≡ 0) where
  pub limit-a : s.phase ≡ 0 → feed_a_refusal key s piece ≡ cond (ltb limit (s.count_a + length piece)) 11 0
  limit-a e =
      let o = open-call key s open_to in
      rw (eq-eqb (length key) 16 o.key_fits, well-formed s o.well, eq-eqb s.phase 0 e)

  pub limit-c : feed_c_refusal key s piece ≡ cond (ltb limit (s.count_c + length piece)) 11 0
  limit-c =
      let o = open-call key s open_to in
      rw (eq-eqb (length key) 16 o.key_fits, well-formed s o.well, ne_eqb s.phase 2 o.unfinished)

-- `answer` is what document 01 gives, `new` the state where nothing is refused
module _ (answer : ℕ) (new : State) (s : Running) where
  -- a call that was refused or taken, and left t
  abbrev Left : ℕ → Running → Type 0
  Left n t = Updates answer (cond (eqb answer 0) new (view s)) s n t

  pub refused : (r : Result Running Refusal) (e : Refusal) → answer ≡ number e → IsErrAnd r (λ x. x ≡ e) → Left (number_of r) (state_after s r)
  refused (Ok t) e a is = absurd is
  refused (Err x) e a is =
      let done : answer ≡ 0 → ⊥ = λ z. not_done e (sym a ∙ z) in
      record { answer = ap number is ∙ sym a; state = rw (ne_eqb answer 0 done); kept = λ _. refl; spare = λ z. absurd (done z) }

  pub taken : (t : Running) → answer ≡ 0 → view t ≡ new → t.spare ≡ spare_zeros → Left 0 t
  taken t e v z = record { answer = sym e; state = rw (eq-eqb answer 0 e) v; kept = λ f. absurd (f e); spare = λ _. z }

-- the hash that finishing answers, zero where it is refused
pub hash : (answer y : ℕ) {v : ℕ} → answer ≡ 0 → v ≡ y → v ≡ cond (eqb answer 0) y 0
hash answer y z e = rw (eq-eqb answer 0 z) e
