-- Document 02, Ask 5: "The zero byte of the trace record now holds the tail policy as 1 and the mask policy as 2, added".
-- Assumes nothing.
use Rattle.std.specs.Prelude.{ℕ, ◌+◌, ◌/◌, ◌%◌, ◌≤◌, Bool, cond, ◌≡◌, eqb}

-- the policy byte, and the policies that one up to 3 holds
abbrev pub policy_of : Bool → Bool → ℕ
policy_of vta vma = cond vta 1 0 + cond vma 2 0

abbrev pub vta_of : ℕ → Bool
vta_of policy = eqb (policy % 2) 1

abbrev pub vma_of : ℕ → Bool
vma_of policy = eqb (policy / 2 % 2) 1

-- ---- for readers

-- the policies give one of the bytes 0 to 3, which gives them again; and each of these bytes is given by the policies that it holds
pub record PolicyByte : Type 0 where
  pub given : (vta vma : Bool) → (policy_of vta vma ≤ 3) × (vta_of (policy_of vta vma) ≡ vta) × (vma_of (policy_of vta vma) ≡ vma)
  pub held : (policy : ℕ) → policy ≤ 3 → policy_of (vta_of policy) (vma_of policy) ≡ policy
