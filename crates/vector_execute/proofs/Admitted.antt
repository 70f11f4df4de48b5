-- What it tells of a word and its settings that the number is 0: the word is one of the eight, and none of the refusals applies;
-- and what a call leaves, by its number.
-- Assumes nothing.
use Rattle.std.proofs.Common.{◌≡◌, ℕ, ◌<◌, true, false, cond, not, ◌||◌, eqb, ltb, List, length, Option, Some, None, refl, subst, arith, zero-lt-suc, suc-ne-zero, eq-eqb, ne_eqb}
use borrow.Author.Tests.{not-false}
use Rattle.vector_registers.specs.declared.settings.Settings.{Settings}
use Rattle.vector_word.specs.declared.Fields.{Fields}
use Rattle.vector_kind.specs.declared.Kind.{Kind}
use Rattle.vector_word.specs.declared.Instruction.{Instruction}
use Rattle.vector_registers.specs.Settings.{applies1, applies3, sew_allowed, lmul_allowed, vlmax}
use Rattle.vector_refusal.specs.Refusal.{applies4, applies5, applies6, applies7, applies8, refusal_of_known, refusal_of_word, refusal_of}
use Rattle.vector_word.specs.Word.{decode, instruction}
use Rattle.vector_word.proofs.Tests.{or-false, passed, passed-by, pick-here, pick_next}
use Rattle.vector_execute.specs.Execute.{done, executed, vstart_after}

pub record Admitted (file_length : ℕ) (k : Kind) (f : Fields) (s : Settings) : Type 0 where
  pub not1 : applies1 file_length s.vlen ≡ false
  pub not3 : applies3 s ≡ false
  pub not4 : applies4 k s ≡ false
  pub not5 : applies5 k s ≡ false
  pub not6 : applies6 k f s ≡ false
  pub not7 : applies7 k f s ≡ false
  pub not8 : applies8 k f ≡ false

-- where the number has a property that none of 1 to 6 has, it is past their tests
pub past-six : (P : ℕ → Type 0) (k : Kind) (f : Fields) (s : Settings) → ((n : ℕ) → 0 < n → n < 7 → P n → ⊥) → P (refusal_of_known k f s)
    → (applies3 s ≡ false) × (applies4 k s ≡ false) × (applies5 k s ≡ false) × (applies6 k f s ≡ false)
    × P (cond (applies7 k f s) 7 (cond (applies8 k f) 8 0))
unfolding refusal_of_known
past-six P k f s out h =
    let p3 = passed-by P (applies3 s) 3 _ (out 3 (omega arith) (omega arith)) h in
    let p4 = passed-by P (applies4 k s) 4 _ (out 4 (omega arith) (omega arith)) p3.1 in
    let p5 = passed-by P (applies5 k s) 5 _ (out 5 (omega arith) (omega arith)) p4.1 in
    let p6 = passed-by P (applies6 k f s) 6 _ (out 6 (omega arith) (omega arith)) p5.1 in
    (p3.0, p4.0, p5.0, p6.0, p6.1)

known : (file_length : ℕ) (k : Kind) (f : Fields) (s : Settings)
    → applies1 file_length s.vlen ≡ false → refusal_of_known k f s ≡ 0 → Admitted file_length k f s
known file_length k f s h1 e =
    let p = past-six (λ (v : ℕ). v ≡ 0) k f s (λ n low high z. omega arith) e in
    let p7 = passed (applies7 k f s) 7 _ (zero-lt-suc 6) p.4 in
    let p8 = passed (applies8 k f) 8 0 (zero-lt-suc 7) p7.1 in
    record { not1 = h1; not3 = p.0; not4 = p.1; not5 = p.2; not6 = p.3; not7 = p7.0; not8 = p8.0 }

pub admitted : (file_length word : ℕ) (s : Settings) → refusal_of file_length word s ≡ 0
    → (k : Kind) × (f : Fields) × (decode word ≡ Some (instruction k f)) × Admitted file_length k f s
unfolding refusal_of
admitted file_length word s e =
    let p1 = passed (applies1 file_length s.vlen) 1 (refusal_of_word (decode word) s) (zero-lt-suc 0) e in
    go (decode word) refl p1.0 p1.1
  where
    go : (w : Option Instruction) → decode word ≡ w → applies1 file_length s.vlen ≡ false → refusal_of_word w s ≡ 0
        → (k : Kind) × (f : Fields) × (decode word ≡ Some (instruction k f)) × Admitted file_length k f s
    go None d h1 r = absurd (suc-ne-zero 1 r)
    go (Some i) d h1 r = (i.kind, i.fields, d, known file_length i.kind i.fields s h1 r)

-- the same of a word whose kind and fields are known
pub admitted-as : (file_length word : ℕ) (s : Settings) {k : Kind} {f : Fields} → decode word ≡ Some (instruction k f) → refusal_of file_length word s ≡ 0 → Admitted file_length k f s
unfolding refusal_of
admitted-as file_length word s {k} {f} d e =
    let p1 = passed (applies1 file_length s.vlen) 1 (refusal_of_word (decode word) s) (zero-lt-suc 0) e in
    known file_length k f s p1.0 (subst (λ (w : Option Instruction). refusal_of_word w s ≡ 0) d p1.1)

pub sew-allowed : (s : Settings) → applies3 s ≡ false → sew_allowed s.sew ≡ true
sew-allowed s h =
    not-false (sew_allowed s.sew)
    (or-false (not (sew_allowed s.sew)) (not (lmul_allowed s.lmul) || ltb (vlmax s.vlen s.sew s.lmul) s.vl) h).0

module _ (word : ℕ) (s : Settings) (scalar : ℕ) (file : List ℕ) where
  -- a refusal leaves the file and vstart
  pub refused : (refusal_of (length file) word s ≡ 0 → ⊥)
      → (s.vstart ≡ vstart_after (length file) word s) × (file ≡ executed word s scalar file)
  unfolding executed
  refused h =
      let e = ne_eqb (refusal_of (length file) word s) 0 h in (
        pick_next (eqb (refusal_of (length file) word s) 0) 0 s.vstart e refl,
        pick_next (eqb (refusal_of (length file) word s) 0) (done (decode word) s scalar file) file e refl,
      )

  -- any other call does the word, and vstart is 0
  pub performed : refusal_of (length file) word s ≡ 0
      → (0 ≡ vstart_after (length file) word s) × (done (decode word) s scalar file ≡ executed word s scalar file)
  unfolding executed
  performed h =
      let e = eq-eqb (refusal_of (length file) word s) 0 h in (
        pick-here (eqb (refusal_of (length file) word s) 0) 0 s.vstart e,
        pick-here (eqb (refusal_of (length file) word s) 0) (done (decode word) s scalar file) file e,
      )
