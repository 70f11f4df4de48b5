-- The buffer with a word's text in it is the listing's (`listed_text`); and a decoded word's registers (`registers`). Assumes nothing.
use Rattle.std.proofs.Common.{◌≡◌, ℕ, ◌+◌, ◌≤◌, List, ◌++◌, Option, Some, None, Ok, cond, sym, ap, ◌∙◌, zero-add, length, drop, arith, eqb, le-ltb}
use lib.Seq.{sets-eq}
use Rattle.std.specs.Option.{ok_or}
use Rattle.refusal.specs.declared.Refusal.{Refusal}
use Rattle.vector_word.specs.declared.Instruction.{Instruction}
use Rattle.vector_word.specs.Word.{decode}
use Rattle.vector_word.proofs.Writer.{decoded-fit}
use Rattle.vector_listing.specs.Listing.{Registers, Puts, listed_into}
use Rattle.vector_listing.specs.Text.{text}
use Rattle.vector_listing.proofs.Lengths.{text-length}

pub listed_text : (buffer : List ℕ) (i : Instruction) {end : ℕ} {after : List ℕ} → 32 ≤ length buffer → Puts buffer 0 (text i.kind i.fields) end after
    → after ≡ listed_into buffer (Some i)
listed_text buffer i h p =
    let t = sym (le-ltb (length buffer) 32 h) in
    let n = length (text i.kind i.fields) in
    let room : 0 + n ≤ length buffer = omega (arith, text-length i.kind i.fields) in
    p.after_is
    ∙ sets-eq (text i.kind i.fields) buffer 0 room
    ∙ ap (λ (m : ℕ). text i.kind i.fields ++ drop m buffer) (zero-add n)
    ∙ λ j. cond (eqb (cond (t j) 22 0) 0) (text i.kind i.fields ++ drop n buffer) buffer

-- what is taken out of an option by `ok_or` and `?` was in it
pub taken : (w : Option Instruction) (refusal : Refusal) {i : Instruction} → ok_or w refusal ≡ Ok i → w ≡ Some i
taken (Some j) refusal {i} e = let same : j ≡ i = cc in ap Some same
taken None refusal {i} e = let z : ◌≡◌ {A = ℕ} 0 1 = cc in absurd (omega arith)

pub registers : (word : ℕ) (i : Instruction) → decode word ≡ Some i → Registers i.fields
registers word i e = let fit = decoded-fit word e in record { vs2 = fit.vs2; vs1 = fit.vs1; vd = fit.vd }
