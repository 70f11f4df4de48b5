-- A word's steps as a loop sees them: what is left from i on (`turn`, `none_left`). And what each step keeps, all of them keep
-- (`steps-keep`).
-- Assumes nothing.
use Rattle.std.proofs.Common.{◌≡◌, sym, ap, ◌∙◌, List, ℕ, zero, suc, ◌+◌, ◌-◌, ◌<◌, ◌≤◌, arith}
use Rattle.vector_element.specs.Steps.{steps}

module _ (S : ℕ → List ℕ → List ℕ) where
  -- a turn of the loop: step i is done, and the steps from i + 1 on are left
  pub turn : (to i : ℕ) (file : List ℕ) {next all : List ℕ} → i < to → next ≡ S i file → steps S (to - i) i file ≡ all
      → steps S (to - (i + 1)) (i + 1) next ≡ all
  unfolding steps
  turn to i file h done left =
      let e : to - i ≡ suc (to - (i + 1)) = omega arith in
      ap (steps S (to - (i + 1)) (i + 1)) done ∙ sym (ap (λ (n : ℕ). steps S n i file) e) ∙ left

  -- none is left
  pub none_left : (to i : ℕ) (file : List ℕ) {all : List ℕ} → to ≤ i → steps S (to - i) i file ≡ all → file ≡ all
  unfolding steps
  none_left to i file h left =
      let e : to - i ≡ 0 = omega arith in
      sym (ap (λ (n : ℕ). steps S n i file) e) ∙ left

  pub steps-keep : (P : List ℕ → Type 0) (n i : ℕ) (file : List ℕ) → ((j : ℕ) (g : List ℕ) → i ≤ j → j < i + n → P g → P (S j g)) → P file → P (steps S n i file)
  unfolding steps
  steps-keep P zero i file keep h = h
  steps-keep P (suc n) i file keep h =
      steps-keep P n (i + 1) (S i file) (λ j g lo hi. keep j g (omega arith) (omega arith)) (keep i file (omega arith) (omega arith) h)
