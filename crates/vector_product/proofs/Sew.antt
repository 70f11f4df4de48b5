-- What it tells of SEW that it is allowed: 8, 16, 32 or 64.
-- Assumes nothing.
use Rattle.std.proofs.Common.{true, ◌≡◌, refl, ℕ, ◌+◌, ◌<◌, ◌≤◌, arith}
use Rattle.vector_registers.specs.Settings.{sew_allowed}
use Rattle.vector_registers.proofs.Allowed.{each-sew}

-- a product of two elements fits two numbers of 64 bits, and one where SEW is not 64
pub record SewFacts (sew : ℕ) : Type 0 where
  pub positive : 0 < sew
  pub most : sew ≤ 64
  pub twice : (sew ≡ 64 → ⊥) → sew + sew ≤ 64

pub sew-facts : (sew : ℕ) → sew_allowed sew ≡ true → SewFacts sew
sew-facts sew =
    each-sew SewFacts sew
    (record { positive = omega arith; most = omega arith; twice = λ ne. omega arith })
    (record { positive = omega arith; most = omega arith; twice = λ ne. omega arith })
    (record { positive = omega arith; most = omega arith; twice = λ ne. omega arith })
    (record { positive = omega arith; most = omega arith; twice = λ ne. absurd (ne refl) })
