-- Writer and decoder by number undo each other (`written-decodes`, `decoded-is-written`): the laws of the writer, with a kind and its number
-- in place of each other. Assumes nothing.
use Rattle.std.proofs.Common.{◌≡◌, ℕ, Bool, true, false, cond, List, [], ◌∷◌, Option, Some, None, Result, Ok, Err, refl, sym, ap, ◌∙◌, arith, eqb, eqb-true}
use Rattle.refusal.specs.Refusal.{number}
use Rattle.refusal.specs.declared.Refusal.{Refusal}
use Rattle.refusal.specs.declared.Refusal.TheVariants.{NotAWord}
use Rattle.vector_kind.specs.declared.Kind.{Kind}
use Rattle.vector_kind.specs.declared.Kind.TheVariants.{VclmulVv, VclmulVx, VclmulhVv, VclmulhVx, VghshVv, VghshVs, VgmulVv, VgmulVs}
use Rattle.vector_kind.specs.Kinds.{kinds, kind_number, numbered_among, kind_numbered}
use Rattle.vector_word.specs.declared.Instruction.{Instruction}
use Rattle.vector_word.specs.Word.{decode}
use Rattle.vector_word.proofs.Writer as Writer
use Rattle.vector_numbers.specs.Numbers.{encoded_by, decoded_by, encoded_numbered, decoded_numbered, WrittenDecodes, DecodedIsWritten}

-- the kind that a number stands for has that number
of-kind : (ks : List Kind) (n : ℕ) {k : Kind} → numbered_among ks n ≡ Ok k → kind_number k ≡ n
of-kind [] n e = let z : ◌≡◌ {A = ℕ} 0 1 = cc in absurd (omega arith)
of-kind (a ∷ ks) n {k} e = go (eqb n (kind_number a)) refl (of-kind ks n) e
  where
    go : (b : Bool) → eqb n (kind_number a) ≡ b → (numbered_among ks n ≡ Ok k → kind_number k ≡ n) → cond b (Ok a) (numbered_among ks n) ≡ Ok k → kind_number k ≡ n
    go true t rest e = let same : k ≡ a = cc in ap kind_number same ∙ sym (eqb-true n (kind_number a) t)
    go false t rest e = rest e

-- a number that no kind has is refused with 2
no-kind : (ks : List Kind) (n : ℕ) {r : Refusal} → numbered_among ks n ≡ Err r → number r ≡ 2
no-kind [] n {r} e = let same : r ≡ NotAWord = cc in ap number same
no-kind (a ∷ ks) n {r} e = go (eqb n (kind_number a)) (no-kind ks n) e
  where
    go : (b : Bool) → (numbered_among ks n ≡ Err r → number r ≡ 2) → cond b (Ok a) (numbered_among ks n) ≡ Err r → number r ≡ 2
    go true rest e = let z : ◌≡◌ {A = ℕ} 0 1 = cc in absurd (omega arith)
    go false rest e = rest e

to-kind : (k : Kind) → kind_numbered (kind_number k) ≡ Ok k
to-kind VclmulVv = refl
to-kind VclmulVx = refl
to-kind VclmulhVv = refl
to-kind VclmulhVx = refl
to-kind VghshVv = refl
to-kind VghshVs = refl
to-kind VgmulVv = refl
to-kind VgmulVs = refl

pub written-decodes : WrittenDecodes
written-decodes kind f e = go (kind_numbered kind) refl e
  where
    go : (n : Result Kind Refusal) → kind_numbered kind ≡ n → (encoded_by n f).number ≡ 0 → decoded_numbered (encoded_by n f).word ≡ record { number = 0; kind = kind; fields = f }
    go (Ok k) t e =
        ap decoded_by (Writer.written-decodes k f e) ∙ λ i. record { number = 0; kind = of-kind kinds kind t i; fields = f }
    go (Err r) t e = let two = no-kind kinds kind t in absurd (omega arith)

pub decoded-is-written : DecodedIsWritten
decoded-is-written word small e = go (decode word) refl e
  where
    go : (w : Option Instruction) → decode word ≡ w → (decoded_by w).number ≡ 0 → encoded_numbered (decoded_by w).kind (decoded_by w).fields ≡ record { number = 0; word = word }
    go (Some x) t e = ap (λ (n : Result Kind Refusal). encoded_by n x.fields) (to-kind x.kind) ∙ Writer.decoded-is-written word small x.kind x.fields t
    go None t e = absurd (omega arith)
