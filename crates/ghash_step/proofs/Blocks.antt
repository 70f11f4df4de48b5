-- The hash over what is left of a list, cut into pieces of 16 bytes of which the last may be shorter: `over-piece`, `over-none`.
-- Assumes nothing.
use Rattle.std.proofs.Common.{◌≡◌, ℕ, ◌+◌, ◌/◌, ◌<◌, ◌≤◌, min, List, [], ◌∷◌, ◌++◌, length, sym, ap, ◌∙◌, subst, ⊎_elim, eq-zero-or-pos, append-nil, length-append, arith}
use Rattle.std.proofs.lemmas.List.{nil_from_length}
use Rattle.gf128.specs.Bytes.{block_at}
use Rattle.gf128.specs.Hash.{next, over, blocks_from, blocks_of}
use Rattle.gf128.proofs.Hash.{blocks_of-append, blocks_of-empty}

-- a piece is one block
one_block : (x : List ℕ) → 0 < length x → length x ≤ 16 → blocks_of x ≡ block_at x 0 ∷ []
unfolding blocks_of blocks_from
one_block x some few =
    let n : (length x + 15) / 16 ≡ 1 = omega arith in
    ap (blocks_from x 0) n

-- the piece and what is left after it
cut : (x rest : List ℕ) → length x ≡ min 16 (length x + length rest) → blocks_of (x ++ rest) ≡ blocks_of x ++ blocks_of rest
cut x rest piece =
    ⊎_elim
    (λ (none : length rest ≡ 0).
    let empty : [] ≡ rest = sym (nil_from_length rest none) in
    subst (λ (r : List ℕ). blocks_of (x ++ r) ≡ blocks_of x ++ blocks_of r) empty
    (ap blocks_of (append-nil x) ∙ sym (ap (λ (r : List ℕ). blocks_of x ++ r) blocks_of-empty ∙ append-nil (blocks_of x))))
    (λ (some : 0 < length rest). blocks_of-append x rest (omega arith))
    (eq-zero-or-pos (length rest))

pub over-piece : (h y : ℕ) (s x rest : List ℕ) → s ≡ x ++ rest → length x ≡ min 16 (length s) → 0 < length s
    → over h y (blocks_of s) ≡ over h (next h y (block_at x 0)) (blocks_of rest)
unfolding over
over-piece h y s x rest e piece some =
    let l : length s ≡ length x + length rest = ap length e ∙ length-append x rest in
    ap (λ (t : List ℕ). over h y (blocks_of t)) e
    ∙ ap (over h y) (cut x rest (omega arith) ∙ ap (λ (b : List ℕ). b ++ blocks_of rest) (one_block x (omega arith) (omega arith)))

pub over-none : (h y : ℕ) (s : List ℕ) → length s ≡ 0 → over h y (blocks_of s) ≡ y
unfolding over
over-none h y s none = ap (over h y) (ap blocks_of (nil_from_length s none) ∙ blocks_of-empty)
