-- A number as two halves of w digits each, divided by 2 ^ k. Main results: `shift-less` (k below w), `shift-more` (k from w on).
-- Assumes nothing.
use Rattle.std.proofs.Common.{◌≡◌, sym, ap, ap₂, ◌∙◌, ℕ, suc, ◌+◌, ◌-◌, ◌*◌, ◌/◌, ◌%◌, ◌^◌, ◌<◌, ◌≤◌, zero-add, add_comm, mul_assoc, zero-mul, pow-suc, one-add, add-one, arith, bit_or, shr-shr, shr_lt}
use lib.Bits.{or_shifted_r}
use lib.Pow.{high, mod-mod-pow}
use Rattle.gf128.proofs.Halves.{shl-mod, halves-moved}

-- first i digits up and then one more, within u + 1 digits
moved_twice : (v i u : ℕ) → v * 2 ^ i % 2 ^ suc u * 2 % 2 ^ suc u ≡ v * 2 ^ suc i % 2 ^ suc u
moved_twice v i u =
    ap (λ (x : ℕ). v * 2 ^ i % 2 ^ suc u * 2 % 2 ^ x) (sym (add-one u))
    ∙ shl-mod (v * 2 ^ i % 2 ^ suc u) u 1
    ∙ ap (λ (x : ℕ). x * 2) (ap (λ (x : ℕ). v * 2 ^ i % 2 ^ x % 2 ^ u) (sym (one-add u)) ∙ mod-mod-pow (v * 2 ^ i) 1 u)
    ∙ sym (shl-mod (v * 2 ^ i) u 1)
    ∙ ap₂ (λ (x y : ℕ). x % 2 ^ y) (mul_assoc v (2 ^ i) 2 ∙ ap (λ (x : ℕ). v * x) (sym (pow-suc 2 i))) (add-one u)

pub shift-less : (u k a r : ℕ) → k ≤ u → r < 2 ^ suc u
    → a / 2 ^ k * 2 ^ suc u + bit_or (r / 2 ^ k) (a * 2 ^ (u - k) % 2 ^ suc u * 2 % 2 ^ suc u) ≡ (a * 2 ^ suc u + r) / 2 ^ k
shift-less u k a r l h =
    let j = suc (u - k) in
    let e : k + j ≡ suc u = omega arith in
    let f : j + k ≡ suc u = omega arith in
    ap₂ (λ (x y : ℕ). a / 2 ^ k * 2 ^ x + y) (sym f)
    (ap (bit_or (r / 2 ^ k)) (moved_twice a (u - k) u ∙ ap (λ (x : ℕ). a * 2 ^ j % 2 ^ x) (sym e) ∙ shl-mod a k j)
    ∙ or_shifted_r (a % 2 ^ k) j (r / 2 ^ k) (shr_lt j k (rw f h)) ∙ add_comm (a % 2 ^ k * 2 ^ j) (r / 2 ^ k))
    ∙ sym (halves-moved j k a r)
    ∙ ap (λ (x : ℕ). (a * 2 ^ x + r) / 2 ^ k) f

pub shift-more : (w k a r : ℕ) → w ≤ k → r < 2 ^ w → 0 * 2 ^ w + a / 2 ^ (k - w) ≡ (a * 2 ^ w + r) / 2 ^ k
shift-more w k a r l h =
    let e : w + (k - w) ≡ k = omega arith in
    ap (λ (x : ℕ). x + a / 2 ^ (k - w)) (zero-mul (2 ^ w)) ∙ zero-add (a / 2 ^ (k - w))
    ∙ ap (λ (x : ℕ). x / 2 ^ (k - w)) (sym (high a w h))
    ∙ shr-shr (a * 2 ^ w + r) w (k - w) ∙ ap (λ (x : ℕ). (a * 2 ^ w + r) / 2 ^ x) e
