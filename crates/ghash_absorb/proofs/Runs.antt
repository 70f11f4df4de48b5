-- A run of bytes that fits into the open block: the block with the bytes put, hashed where they fill it.
-- Assumes nothing.
use Rattle.std.proofs.Common.{◌≡◌, refl, ap, ◌∙◌, ℕ, ◌+◌, ◌%◌, ◌<◌, List, [], ◌∷◌, length, add-one, arith}
use Rattle.std.proofs.lemmas.List.Edits.{sets}
use lib.ListN.{set}
use Rattle.gf128.specs.Bytes.{block_at}
use Rattle.gf128.specs.Hash.{next}
use Rattle.gf128.specs.Running.{Part, no_bytes, pushed}
use Rattle.gf128.proofs.Parts.{part, push-full, push-open}

module _ (h : ℕ) where
  -- one byte, not at the last place
  pushed-open : (n : ℕ) (p : Part) (b : ℕ) (bs : List ℕ) → n < 15 → pushed h n p (b ∷ bs) ≡ pushed h (n + 1) (part p.y (set p.block n b)) bs
  unfolding pushed
  pushed-open n p b bs l =
      let m : n % 16 ≡ n = omega arith in
      ap (λ (q : Part). pushed h (n + 1) q bs) (push-open h n p b (λ e. omega arith) ∙ ap (λ (k : ℕ). part p.y (set p.block k b)) m)

  -- the block stays open
  pub pushed-short : (n : ℕ) (p : Part) (s : List ℕ) → n + length s < 16 → pushed h n p s ≡ part p.y (sets p.block n s)
  unfolding pushed
  pushed-short n p [] l = refl
  pushed-short n p (b ∷ bs) l =
      pushed-open n p b bs (omega arith)
      ∙ pushed-short (n + 1) (part p.y (set p.block n b)) bs (omega arith)
      ∙ ap (λ (k : ℕ). part p.y (sets (set p.block n b) k bs)) (add-one n)

  -- the block is filled
  pub pushed-filled : (n : ℕ) (p : Part) (s : List ℕ) → n < 16 → n + length s ≡ 16
      → pushed h n p s ≡ part (next h p.y (block_at (sets p.block n s) 0)) no_bytes
  unfolding pushed
  pushed-filled n p [] l e = absurd (omega arith)
  pushed-filled n p (b ∷ []) l e =
      let last : n ≡ 15 = omega arith in
      rw last (push-full h 15 p b refl)
  pushed-filled n p (b ∷ c ∷ bs) l e =
      pushed-open n p b (c ∷ bs) (omega arith)
      ∙ pushed-filled (n + 1) (part p.y (set p.block n b)) (c ∷ bs) (omega arith) (omega arith)
      ∙ ap (λ (k : ℕ). part (next h p.y (block_at (sets (set p.block n b) k (c ∷ bs)) 0)) no_bytes) (add-one n)
