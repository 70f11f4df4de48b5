-- Tests against those of a definition: a test that decides gives the answer `here`, any other leaves it to the `next`.
-- Assumes nothing.
use Rattle.std.proofs.Common.{ℕ, ◌<◌, Bool, true, false, true≢false, cond, ◌&&◌, ◌||◌, ◌⊎◌, inl, inr, ◌≡◌, refl, sym, ap, ◌∙◌, arith}

module _ (a b : Bool) where
  pub and-next : {r : Bool} → a ≡ true → r ≡ b → r ≡ (a && b)
  and-next h e = rw h e

module _ {ℓ} {A : Type ℓ} (a : Bool) (x y : A) where
  pub pick-here : a ≡ true → x ≡ cond a x y
  pick-here h = rw h

  pub pick_next : {r : A} → a ≡ false → r ≡ y → r ≡ cond a x y
  pick_next h e = rw h e

-- ---- a chain of tests: v is what the chain picks, past the tests that fail and at the one that holds

module _ {v : ℕ} (a : Bool) (n rest : ℕ) (chain : v ≡ cond a n rest) where
  pub past : a ≡ false → v ≡ rest
  past h = chain ∙ ap (λ (b : Bool). cond b n rest) h

  pub held : a ≡ true → n ≡ v
  held h = sym (chain ∙ ap (λ (b : Bool). cond b n rest) h)

-- ---- what the value of a definition's test tells

pub or-false : (a b : Bool) → (a || b) ≡ false → (a ≡ false) × (b ≡ false)
or-false true b h = absurd (true≢false h)
or-false false b h = (refl, h)

pub or-true : (a b : Bool) → (a || b) ≡ true → (a ≡ true) ⊎ (b ≡ true)
or-true true b h = inl refl
or-true false b h = inr h

-- a pick that has a property passed by what has it not
pub passed-by : (P : ℕ → Type 0) (a : Bool) (m n : ℕ) → (P m → ⊥) → P (cond a m n) → (a ≡ false) × P n
passed-by P true m n out h = absurd (out h)
passed-by P false m n out h = (refl, h)

-- a pick of 0 passed by what is not 0
pub passed : (a : Bool) (m n : ℕ) → 0 < m → cond a m n ≡ 0 → (a ≡ false) × (n ≡ 0)
passed a m n p = passed-by (λ (v : ℕ). v ≡ 0) a m n (λ e. omega arith)
