-- Ones bits written one byte after the other are one run, as far as the file goes (`ones_run`).
-- Assumes nothing.
use Rattle.std.proofs.Common.{◌≡◌, ℕ, zero, suc, ◌+◌, ◌-◌, ◌<◌, min, List, [], ◌∷◌, ◌++◌, length, set, take, drop, replicate, sym, ap, ap₂, ◌∙◌, append_assoc, add-one, arith, length-set, take-append-drop, take-suc-set, drop-set-lt, drop-drop}
use Rattle.std.proofs.lemmas.List.{set_past}
use borrow.Rule.Slice.PartMut.{put_mid}
use Rattle.vector_element.specs.Steps.{steps}
use Rattle.vector_fill.specs.Fill.{ones_at}

-- a run of no bytes
pub no_run : (at : ℕ) (file : List ℕ) → file ≡ put_mid at 0 file (replicate 0 255)
no_run at file = sym (take-append-drop at file)

-- the first byte of a run, and the rest of it
more_run : (at k : ℕ) (file : List ℕ) → at < length file → put_mid (at + 1) k (set file at 255) (replicate k 255) ≡ put_mid at (suc k) file (replicate (suc k) 255)
more_run at k file h =
    ap₂ (λ (front rest : List ℕ). front ++ (replicate k 255 ++ drop k rest))
    (ap (λ (n : ℕ). take n (set file at 255)) (add-one at) ∙ take-suc-set file at 255 h)
    (drop-set-lt (at + 1) file at 255 (omega arith))
    ∙ append_assoc (take at file) (255 ∷ []) (replicate k 255 ++ drop k (drop (at + 1) file))
    ∙ ap (λ (rest : List ℕ). take at file ++ (255 ∷ (replicate k 255 ++ rest))) (drop-drop k (at + 1) file ∙ ap (λ (n : ℕ). drop n file) (omega arith) ∙ sym (drop-drop (suc k) at file))

pub ones_run : (n at k : ℕ) (file : List ℕ) → k ≡ min n (length file - at) → steps ones_at n at file ≡ put_mid at k file (replicate k 255)
unfolding steps
ones_run zero at zero file e = no_run at file
ones_run zero at (suc k) file e = absurd (omega arith)
ones_run (suc n) at zero file e =
    ones_run n (at + 1) 0 (set file at 255) (omega (arith, length-set file at 255)) ∙ sym (no_run (at + 1) (set file at 255))
    ∙ set_past file at 255 (omega arith) ∙ no_run at file
ones_run (suc n) at (suc k) file e =
    ones_run n (at + 1) k (set file at 255) (omega (arith, length-set file at 255)) ∙ more_run at k file (omega arith)
