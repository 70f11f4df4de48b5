-- `all_zero` as a test of each byte. Assumes nothing.
use Rattle.std.proofs.Common.{◌≡◌, ℕ, nat_eq, List, [], ◌∷◌, ◌&&◌, refl, ap}
use Rattle.std.specs.List.{list_all}
use Rattle.gf128.specs.Running.{all_zero}

pub list_all-zero : (bs : List ℕ) → list_all (λ b. nat_eq b 0) bs ≡ all_zero bs
list_all-zero [] = refl
list_all-zero (b ∷ bs) = ap (λ t. nat_eq b 0 && t) (list_all-zero bs)
