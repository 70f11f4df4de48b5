-- `read` lists what the text was taken for, and compares. Assumes nothing.
use Rattle.std.proofs.Common.{◌≡◌, ℕ, List, Result, Ok, Err, refl, sym, ap, subst, ◌∙◌, length, take, drop, replicate, take_at, true≢false}
use Rattle.std.proofs.lemmas.Result.{err_from_is_err_and}
use Rattle.refusal.specs.declared.Refusal.{Refusal}
use Rattle.vector_kind.specs.declared.Kind.{Kind}
use Rattle.vector_word.specs.declared.Fields.{Fields}
use Rattle.vector_word.specs.Word.{decode}
use Rattle.vector_word.specs.Writer.{Encoded, answered, encoded}
use Rattle.vector_word.proofs.Refusals.{not_done}
use Rattle.vector_listing.specs.Listing.{Listed, listed, listed_into, answered as answered_listing}
use Rattle.vector_listing.specs.Text.{text}
use Rattle.vector_reader.specs.Reading.{Reads}
use Rattle.vector_reader.specs.Scan.{kind_in, fields_in}
use Rattle.vector_reader.proofs.Reading.{found, not-a-word, its-text, other_text, listed-length, listed-number, listed-bytes}
use Rattle.vector_reader.proofs.read.Goals as goal

-- the text's own text, if it is taken for a word
abbrev listing : List ℕ → List ℕ
listing s = text (kind_in s) (fields_in (kind_in s) s)

is_found : (s : List ℕ) {k : Kind} {f : Fields} {e : Encoded} → k ≡ kind_in s → f ≡ fields_in k s → e ≡ encoded k f → e ≡ found s
is_found s {k} kind fields done = done ∙ ap (encoded k) fields ∙ ap (λ (j : Kind). encoded j (fields_in j s)) kind

-- the writer refused
no_word : (s : List ℕ) (r : Result ℕ Refusal) (refusal : Refusal) → answered r ≡ found s → r ≡ Err refusal → Reads s (answered (Err refusal))
no_word s r refusal e is =
    let f : answered (Err refusal) ≡ found s = ap answered (sym is) ∙ e in
    subst (Reads s) (sym f) (not-a-word s (λ n. not_done refusal (ap (λ (x : Encoded). x.number) f ∙ n)))

-- or it gave a word
module _ (s : List ℕ) (word : ℕ) (e : answered (Ok word) ≡ found s) where
  done : (found s).number ≡ 0
  done = ap (λ (x : Encoded). x.number) (sym e)

  -- which can be listed
  lists : (r : Result ℕ Refusal) (refusal : Refusal) → answered_listing r ≡ listed 32 (decode word) → r ≡ Err refusal → ⊥
  lists r refusal h is =
      not_done refusal
      (ap (λ (x : Listed). x.number) (ap answered_listing (sym is))
      ∙ listed-number (kind_in s) (fields_in (kind_in s) s) (answered (Ok word)) e refl (replicate 32 0) refl h)

  -- what is compared with the text is its own text
  compared : (r : Result ℕ Refusal) (n : ℕ) {after : List ℕ} → answered_listing r ≡ listed 32 (decode word) → r ≡ Ok n
      → after ≡ listed_into (replicate 32 0) (decode word) → take n after ≡ listing s
  compared r n h is bytes =
      let length_is = listed-length (kind_in s) (fields_in (kind_in s) s) (answered (Ok word)) e refl (replicate 32 0) refl (ap answered_listing (sym is) ∙ h) in
      let bytes_are = listed-bytes (kind_in s) (fields_in (kind_in s) s) (answered (Ok word)) e refl (replicate 32 0) refl bytes in
      ap (take n) bytes_are ∙ take_at (listing s) (drop (length (listing s)) (replicate 32 0)) n (sym length_is)

pub returns-in_err-word : goal.returns-in_err-word
returns-in_err-word c =
    let s = c.args.text.now in
    let e = is_found s c.kind_in-kind.ensures c.fields_in-fields.ensures c.encode.ensures in
    let p = err_from_is_err_and c.from_residual.result c.from_residual.ensures.1 in
    rw (p.1, p.2) (no_word s c.encode.result c.in_err-word.field-0.0 e c.in_err-word.was)

pub returns-in_err-n : goal.returns-in_err-n
returns-in_err-n c =
    let s = c.args.text.now in
    let e = is_found s c.kind_in-kind.ensures c.fields_in-fields.ensures c.encode.ensures in
    absurd (lists s c.in_ok-word.word (ap answered (sym c.in_ok-word.was) ∙ e) c.list.result c.in_err-n.field-0.0 c.list.ensures.answer c.in_err-n.was)

pub returns-then-not-same : goal.returns-then-not-same
returns-then-not-same c =
    let s = c.args.text.now in
    let e = ap answered (sym c.in_ok-word.was) ∙ is_found s c.kind_in-kind.ensures c.fields_in-fields.ensures c.encode.ensures in
    let own = compared s c.in_ok-word.word e c.list.result c.in_ok-n.n c.list.ensures.answer c.in_ok-n.was c.list.ensures.text in
    other_text s (done s c.in_ok-word.word e) (λ same. true≢false (sym (c.same.ensures.1 (same ∙ sym own)) ∙ c.if-not-same.true))

pub returns : goal.returns
returns c =
    let s = c.args.text.now in
    let e = ap answered (sym c.in_ok-word.was) ∙ is_found s c.kind_in-kind.ensures c.fields_in-fields.ensures c.encode.ensures in
    let own = compared s c.in_ok-word.word e c.list.result c.in_ok-n.n c.list.ensures.answer c.in_ok-n.was c.list.ensures.text in
    subst (Reads s) (sym e) (its-text s (done s c.in_ok-word.word e) (c.same.ensures.0 c.if-not-same.false ∙ own))
