-- The step back's answers are document 01's, each exactly when it is so. Main results: for a key that is not zero `steps-to` (0 with any
-- Y that leads there) and `steps_back` (Y1 times the key's inverse, xor X, does); for the zero key `steps-none` (12) and `steps-many` (13).
-- Assumes nothing.
use mathlib.Core.Path.{◌≡◌, refl, sym, ap, ◌∙◌, subst}
use mathlib.Core.Bool.{not}
use mathlib.Core.Logic.{◌≢◌}
use Prim.Native.Nat.{ℕ, zero, suc, ◌^◌, ◌<◌}
use native.Mathlib.Omega.{arith}
use lib.Bits.{bit_xor, xor_lt}
use lib.Dec.{T, T_not, eqb, eqb_refl, lit<}
use Rattle.gf128.specs.Field.{product, one}
use Rattle.gf128.specs.Hash.{next}
use Rattle.gf128.specs.StepBack.{IsBlock, Leads, StepsBack}
use Rattle.gf128.proofs.Xor.{xor-cancel-right}
use Rattle.gf128.proofs.Field.{product_lt, product-one-right, product-assoc}
use Rattle.gf128.proofs.Next.{next-zero, next-cancel}

-- two numerals
differ : (a b : ℕ) → T (not (eqb a b)) → a ≢ b
differ a b t e = T_not (eqb a b) t (subst (λ (x : ℕ). T (eqb a x)) e (eqb_refl a))

-- ---- a key that is not zero

-- whatever leads there is the only one that does
module _ (h x y1 y : ℕ) (hh : h < 2 ^ 128) (h0 : h ≢ 0) (hy : IsBlock y) (leads : Leads h x y1 y) where
  only : (z : ℕ) → IsBlock z → Leads h x y1 z → z ≡ y
  unfolding next
  only z hz l = next-cancel h z y x hh h0 hz hy (l ∙ sym leads)

  pub steps-to : StepsBack h x y1 0 y
  steps-to =
      record {
        earlier = λ w hw. (
          λ p. record {
            leads = subst (λ (v : ℕ). Leads h x y1 v) p.1 leads;
            no_other = λ z hz n l. n (only z hz l ∙ p.1);
          },
          λ o. (refl, sym (only w hw o.leads)),
        );
        none = (λ e. absurd (differ 0 12 tt e), λ n. absurd (n.no_block y hy leads));
        many = (
          λ e. absurd (differ 0 13 tt e),
          λ m. absurd (m.differ (only m.first m.first_block m.first_leads ∙ sym (only m.second m.second_block m.second_leads))),
        );
        zeroed = λ n. absurd (n refl);
      }

-- Y1 times the key's inverse i, xor X, does
pub steps_back : (h x y1 i : ℕ) → h < 2 ^ 128 → x < 2 ^ 128 → y1 < 2 ^ 128 → i < 2 ^ 128 → product i h ≡ one → h ≢ 0
    → StepsBack h x y1 0 (bit_xor (product y1 i) x)
steps_back h x y1 i hh hx h1 hi inverse h0 =
    steps-to h x y1 (bit_xor (product y1 i) x) hh h0 (xor_lt 128 (product y1 i) x (product_lt y1 i hi) hx)
    (ap (λ (v : ℕ). product v h) (xor-cancel-right (product y1 i) x)
    ∙ product-assoc y1 i h hi hh
    ∙ ap (product y1) inverse
    ∙ product-one-right y1 h1)

-- ---- the zero key

module _ (h x y1 : ℕ) (h0 : h ≡ 0) where
  to-zero : (z : ℕ) → product (bit_xor z x) h ≡ 0
  unfolding next
  to-zero z = ap (product (bit_xor z x)) h0 ∙ next-zero z x

  pub steps-none : y1 ≢ 0 → StepsBack h x y1 12 0
  steps-none n1 =
      record {
        earlier = λ y hy. (λ p. absurd (differ 0 12 tt (sym p.0)), λ o. absurd (nowhere y o.leads));
        none = (λ e. record { no_block = λ z hz l. nowhere z l }, λ n. refl);
        many = (λ e. absurd (differ 12 13 tt e), λ m. absurd (nowhere m.first m.first_leads));
        zeroed = λ n. refl;
      }
    where
      nowhere : (z : ℕ) → Leads h x y1 z → ⊥
      nowhere z l = n1 (sym l ∙ to-zero z)

  -- another block
  other : ℕ → ℕ
  other zero = 1
  other (suc y) = 0

  other_differs : (y : ℕ) → other y ≢ y
  unfolding other
  other_differs zero e = differ 0 1 tt (sym e)
  other_differs (suc y) e = omega arith

  other-lt : (y : ℕ) → IsBlock (other y)
  unfolding other
  other-lt zero = lit< tt
  other-lt (suc y) = lit< tt

  pub steps-many : y1 ≡ 0 → StepsBack h x y1 13 0
  steps-many e1 =
      record {
        earlier = λ y hy. (
          λ p. absurd (differ 0 13 tt (sym p.0)),
          λ o. absurd (o.no_other (other y) (other-lt y) (other_differs y) (everywhere (other y))),
        );
        none = (λ e. absurd (differ 12 13 tt (sym e)), λ n. absurd (n.no_block 0 (lit< tt) (everywhere 0)));
        many = (
          λ e. record {
            first = 0;
            second = 1;
            differ = differ 0 1 tt;
            first_block = lit< tt;
            second_block = lit< tt;
            first_leads = everywhere 0;
            second_leads = everywhere 1;
          },
          λ m. refl,
        );
        zeroed = λ n. refl;
      }
    where
      everywhere : (z : ℕ) → Leads h x y1 z
      everywhere z = to-zero z ∙ sym e1
