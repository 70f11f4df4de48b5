-- Bytes put one run after the other are one run (`puts_then`). Assumes nothing.
use Rattle.std.proofs.Common.{List, [], ◌++◌, ◌≡◌, refl, sym, subst, ◌∙◌, ℕ, add-zero, arith, length-append}
use lib.Seq.{sets}
use Rattle.octets.proofs.Stores.{sets-append}
use Rattle.vector_listing.specs.Listing.{Puts}

pub puts-as : {before : List ℕ} {at : ℕ} {xs ys : List ℕ} {end : ℕ} {after : List ℕ} → xs ≡ ys → Puts before at xs end after → Puts before at ys end after
puts-as {before} {at} {xs} {ys} {end} {after} e p = subst (λ (bytes : List ℕ). Puts before at bytes end after) e p

pub puts_none : (s : List ℕ) (at : ℕ) → Puts s at [] at s
puts_none s at = record { after_is = refl; end_is = sym (add-zero at) }

pub puts_then : {s t u xs ys : List ℕ} {at mid end : ℕ} → Puts s at xs mid t → Puts t mid ys end u → Puts s at (xs ++ ys) end u
puts_then {s} {t} {u} {xs} {ys} {at} {mid} {end} p q = record {
  after_is = q.after_is ∙ (λ i. sets (p.after_is i) (p.end_is i) ys) ∙ sets-append s at xs ys;
  end_is = omega (arith, p.end_is, q.end_is, length-append xs ys);
}
