-- The decoder by the first kind whose row the word has (`decode_found`).
-- Assumes nothing.
use Rattle.std.proofs.Common.{◌≡◌, ℕ, Bool, true, false, cond, List, [], ◌∷◌, Option, Some, option_map, refl, ap, ◌∙◌}
use Rattle.std.specs.List.{find}
use Rattle.vector_kind.specs.declared.Kind.{Kind}
use Rattle.vector_kind.specs.Kinds.{kinds}
use Rattle.vector_word.specs.declared.Instruction.{Instruction}
use Rattle.vector_word.specs.Word.{row, is_row, fields_of, instruction, among, decode}

-- a pick, and then what is made of it
made : {A B : Type 0} (f : A → B) (b : Bool) (x y : Option A) → cond b (option_map f x) (option_map f y) ≡ option_map f (cond b x y)
made f true x y = refl
made f false x y = refl

among-find : (ks : List Kind) (w : ℕ) → among ks w ≡ option_map (λ (k : Kind). instruction k (fields_of w)) (find (λ k. is_row (row k) w) ks)
among-find [] w = refl
among-find (k ∷ ks) w =
    ap (λ (o : Option Instruction). cond (is_row (row k) w) (Some (instruction k (fields_of w))) o) (among-find ks w)
    ∙ made (λ (j : Kind). instruction j (fields_of w)) (is_row (row k) w) (Some k) (find (λ j. is_row (row j) w) ks)

pub decode_found : (w : ℕ) → decode w ≡ option_map (λ (k : Kind). instruction k (fields_of w)) (find (λ k. is_row (row k) w) kinds)
unfolding decode
decode_found w = among-find kinds w
