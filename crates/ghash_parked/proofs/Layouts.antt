-- What is known of a layout that a length tells. Assumes nothing.
use Rattle.std.proofs.Common.{ℕ, ◌≤◌, ◌≡◌, subst, arith, eqb, eqb-true, Some}
use Rattle.std.proofs.lemmas.Option.{cond_some}
use Rattle.ghash_parked.specs.declared.layout.Layout.{Layout}
use Rattle.ghash_parked.specs.Layout.{counts4, size, layout_of}

-- its counts fit 32 bits, and its records have that length
pub layout-known : (n : ℕ) (l : Layout) → layout_of n ≡ Some l → (l.count_bytes ≤ 4) × (n ≡ size l)
layout-known n l e =
    let p = cond_some (eqb n 48) counts4 l e in
    subst (λ (k : Layout). (k.count_bytes ≤ 4) × (n ≡ size k)) p.1 (omega arith, eqb-true n 48 p.0)
