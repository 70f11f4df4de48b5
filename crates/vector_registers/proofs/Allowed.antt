-- What holds of each allowed VLEN, SEW or LMUL holds of one that is allowed (`each-vlen`, `each-sew`, `each-lmul`); and what an allowed
-- LMUL tells of its groups (`each-group`, `times-lmul`).
-- Assumes nothing.
use Rattle.std.proofs.Common.{◌≡◌, ℕ, ◌*◌, ◌≤◌, true, ◌||◌, eqb, subst, sym, ⊎_elim, le_refl, eqb-true}
use Rattle.vector_registers.specs.Settings.{one_of, vlen_allowed, sew_allowed, lmul_allowed, group_registers, times_lmul}
use Rattle.vector_word.proofs.Tests.{or-true}

module _ (P : ℕ → Type 0) (v : ℕ) where
  at : (n : ℕ) → P n → eqb v n ≡ true → P v
  at n p e = subst P (sym (eqb-true v n e)) p

  each_of : (a b c d : ℕ) → P a → P b → P c → P d → one_of v a b c d ≡ true → P v
  each_of a b c d pa pb pc pd h =
      ⊎_elim (at a pa)
      (λ t. ⊎_elim (at b pb)
      (λ u. ⊎_elim (at c pc) (at d pd) (or-true (eqb v c) (eqb v d) u))
      (or-true (eqb v b) (eqb v c || eqb v d) t))
      (or-true (eqb v a) (eqb v b || (eqb v c || eqb v d)) h)

  pub each-sew : P 8 → P 16 → P 32 → P 64 → sew_allowed v ≡ true → P v
  each-sew = each_of 8 16 32 64

  pub each-lmul : P 1 → P 2 → P 4 → P 8 → lmul_allowed v ≡ true → P v
  each-lmul = each_of 1 2 4 8

  pub each-vlen : P 128 → P 256 → P 512 → vlen_allowed v ≡ true → P v
  each-vlen p q r h =
      ⊎_elim (at 128 p) (λ t. ⊎_elim (at 256 q) (at 512 r) (or-true (eqb v 256) (eqb v 512) t))
      (or-true (eqb v 128) (eqb v 256 || eqb v 512) h)

-- a group has 1, 2, 4 or 8 registers
pub each-group : (P : ℕ → Type 0) (lmul : ℕ) → P 1 → P 2 → P 4 → P 8 → lmul_allowed lmul ≡ true → P (group_registers lmul)
each-group P lmul = each-lmul (λ (l : ℕ). P (group_registers l)) lmul

-- the elements of LMUL registers find room in the group's
pub times-lmul : (lmul n : ℕ) → times_lmul lmul n ≤ group_registers lmul * n
times-lmul lmul n = le_refl (lmul * n)
