-- The policy byte and the policies give each other.
-- Assumes nothing.
use Rattle.std.proofs.Common.{ℕ, zero, suc, ◌≤◌, Bool, true, false, ◌≡◌, refl, arith}
use Rattle.trace_policy.specs.Policy.{policy_of, vta_of, vma_of, PolicyByte}

pub policy-byte : PolicyByte
policy-byte = record { given = given; held = held }
  where
    given : (vta vma : Bool) → (policy_of vta vma ≤ 3) × (vta_of (policy_of vta vma) ≡ vta) × (vma_of (policy_of vta vma) ≡ vma)
    given true true = (omega arith, refl, refl)
    given true false = (omega arith, refl, refl)
    given false true = (omega arith, refl, refl)
    given false false = (omega arith, refl, refl)

    held : (policy : ℕ) → policy ≤ 3 → policy_of (vta_of policy) (vma_of policy) ≡ policy
    held zero h = refl
    held (suc zero) h = refl
    held (suc (suc zero)) h = refl
    held (suc (suc (suc zero))) h = refl
    held (suc (suc (suc (suc n)))) h = absurd (omega arith)
