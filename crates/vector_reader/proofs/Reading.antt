-- What is taken is what is listed: `listed-is-found`, `found-is-listed`. From these come the reader's answers (`not-a-word`, `its-text`,
-- `other_text`) and the theorems for readers (`read-from-its-text`, `one-word-a-text`, `one_answer`). Assumes nothing.
use Rattle.std.proofs.Common.{Bool, true, false, cond, List, ◌++◌, ◌≡◌, refl, sym, ap, subst, ◌∙◌, ℕ, ◌^◌, ◌<◌, arith, eqb, ltb, length, drop, eqb-true, Option, Some, None}
use borrow.Author.Tests.{eqb-false}
use Rattle.vector_kind.specs.declared.Kind.{Kind}
use Rattle.vector_word.specs.declared.Fields.{Fields}
use Rattle.vector_word.specs.declared.Instruction.{Instruction}
use Rattle.vector_word.specs.Word.{row, instruction, decode}
use Rattle.vector_word.specs.Writer.{Encoded, admits, encoded}
use Rattle.vector_word.proofs.Writer.{admitted, narrow, done-admits, refused, written, written-decodes, decoded-is-written}
use Rattle.vector_listing.specs.Listing.{Listed, list_number, listed, listed_into}
use Rattle.vector_listing.specs.Text.{text, text_of}
use Rattle.vector_reader.specs.Reading.{Lists, Reads, ReadFromItsText, OneWordAText, OneAnswer}
use Rattle.vector_reader.specs.Scan.{kind_in, fields_in}
use Rattle.vector_reader.proofs.Scan.{scan-kind, scan-fields}

-- what a text is taken for, written
abbrev pub found : List ℕ → Encoded
found s = encoded (kind_in s) (fields_in (kind_in s) s)

-- ---- a word's text is taken for that word

pub listed-is-found : (s : List ℕ) (word : ℕ) → Lists word s → found s ≡ record { number = 0; word = word }
listed-is-found s word l = go (decode word) refl l.listed l.text-is
  where
    go : (w : Option Instruction) → decode word ≡ w → list_number 32 w ≡ 0 → text_of w ≡ s → found s ≡ record { number = 0; word = word }
    go (Some i) e n t =
        let k = i.kind in
        let f = i.fields in
        let again = decoded-is-written word l.small k f e in
        let a = admitted (row k) f (done-admits k f (ap (λ (x : Encoded). x.number) again)) in
        ap found (sym t)
        ∙ ap (λ (j : Kind). encoded j (fields_in j (text k f))) (scan-kind k f)
        ∙ ap (encoded k) (scan-fields k f a)
        ∙ again
    go None e n t = absurd (omega arith)

-- ---- what is written lists as its text

pub found-is-listed : (k : Kind) (f : Fields) → (encoded k f).number ≡ 0 → Lists (encoded k f).word (text k f)
found-is-listed k f n =
    let h = done-admits k f n in
    let w = narrow k f h in
    let known = written-decodes k f n in
    record {
      small = subst (λ (x : Encoded). x.word < 2 ^ 32) (written k f h refl) (omega arith);
      listed = ap (list_number 32) known;
      text-is = ap text_of known;
    }

-- ---- the answers

pub one-word-a-text : OneWordAText
one-word-a-text v w s p q = ap (λ (x : Encoded). x.word) (sym (listed-is-found s v p) ∙ listed-is-found s w q)

-- no answer is both
both : {word : ℕ} → ◌≡◌ {A = Encoded} (record { number = 0; word = word }) (record { number = 2; word = 0 }) → ⊥
both e = let z : ◌≡◌ {A = ℕ} 0 2 = ap (λ (x : Encoded). x.number) e in omega arith

takes : (s : List ℕ) (word : ℕ) → Lists word s → Reads s (record { number = 0; word = word })
takes s word l = record {
  taken = λ v. (
    λ m. λ i. record { number = 0; word = one-word-a-text word v s l m i },
    λ e. subst (λ (w : ℕ). Lists w s) (ap (λ (x : Encoded). x.word) e) l,
  );
  refused = (λ none. absurd (none word l), λ e. absurd (both e));
}

refuses : (s : List ℕ) → ((word : ℕ) → Lists word s → ⊥) → Reads s (record { number = 2; word = 0 })
refuses s none = record {
  taken = λ v. (λ m. absurd (none v m), λ e. absurd (both (sym e)));
  refused = (λ _. refl, λ _. none);
}

pub read-from-its-text : ReadFromItsText
read-from-its-text word small n r reads = (reads.taken word).0 (record { small = small; listed = n; text-is = refl })

pub one_answer : OneAnswer
one_answer s q r p t = go (eqb q.number 0) refl
  where
    go : (b : Bool) → eqb q.number 0 ≡ b → q ≡ r
    go true e =
        let is : q ≡ record { number = 0; word = q.word } = λ i. record { number = eqb-true q.number 0 e i; word = q.word } in
        is ∙ sym ((t.taken q.word).0 ((p.taken q.word).1 is))
    go false e =
        let none : (word : ℕ) → Lists word s → ⊥ = λ word l. eqb-false q.number 0 e (ap (λ (x : Encoded). x.number) ((p.taken word).0 l)) in
        p.refused.0 none ∙ sym (t.refused.0 none)

-- ---- the reader's ways

module _ (s : List ℕ) where
  -- what the text is taken for is no word
  pub not-a-word : ((found s).number ≡ 0 → ⊥) → Reads s (found s)
  not-a-word h =
      let none : (word : ℕ) → Lists word s → ⊥ = λ word l. h (ap (λ (x : Encoded). x.number) (listed-is-found s word l)) in
      subst (Reads s) (go (admits (row (kind_in s)) (fields_in (kind_in s) s)) refl) (refuses s none)
    where
      go : (b : Bool) → admits (row (kind_in s)) (fields_in (kind_in s) s) ≡ b → record { number = 2; word = 0 } ≡ found s
      go true e = absurd (h (ap (λ (x : Encoded). x.number) (sym (written (kind_in s) (fields_in (kind_in s) s) e refl))))
      go false e = refused (kind_in s) (fields_in (kind_in s) s) e

  module _ (n : (found s).number ≡ 0) where
    -- it is a word, whose text is this one
    pub its-text : s ≡ text (kind_in s) (fields_in (kind_in s) s) → Reads s (found s)
    its-text e =
        subst (Reads s) (λ i. record { number = sym n i; word = (found s).word })
        (takes s (found s).word (subst (Lists (found s).word) (sym e) (found-is-listed (kind_in s) (fields_in (kind_in s) s) n)))

    -- or another one
    pub other_text : (s ≡ text (kind_in s) (fields_in (kind_in s) s) → ⊥) → Reads s (record { number = 2; word = 0 })
    other_text h =
        refuses s λ word l.
        h (sym l.text-is
        ∙ ap (λ (x : Encoded). text_of (decode x.word)) (sym (listed-is-found s word l))
        ∙ ap text_of (written-decodes (kind_in s) (fields_in (kind_in s) s) n))

-- ---- the listing that the reader compares with

module _ (k : Kind) (f : Fields) (e : Encoded) (is : e ≡ encoded k f) (n : e.number ≡ 0) (buffer : List ℕ) (room : length buffer ≡ 32) where
  known : decode e.word ≡ Some (instruction k f)
  known = ap (λ (x : Encoded). decode x.word) is ∙ written-decodes k f (ap (λ (x : Encoded). x.number) (sym is) ∙ n)

  pub listed-length : {l : Listed} → l ≡ listed (length buffer) (decode e.word) → l.length ≡ length (text k f)
  listed-length h = ap (λ (x : Listed). x.length) (h ∙ λ i. listed (room i) (known i))

  pub listed-number : {l : Listed} → l ≡ listed (length buffer) (decode e.word) → l.number ≡ 0
  listed-number h = ap (λ (x : Listed). x.number) (h ∙ λ i. listed (room i) (known i))

  pub listed-bytes : {b : List ℕ} → b ≡ listed_into buffer (decode e.word) → b ≡ text k f ++ drop (length (text k f)) buffer
  listed-bytes h =
      h ∙ ap (listed_into buffer) known ∙ λ i. cond (eqb (cond (ltb (room i) 32) 22 0) 0) (text k f ++ drop (length (text k f)) buffer) buffer
