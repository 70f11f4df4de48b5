-- Bits of a number, each law over the width.
-- Assumes nothing.
use Rattle.std.proofs.Common.{◌≡◌, sym, ap, ◌∙◌, ℕ, ◌+◌, ◌*◌, ◌/◌, ◌%◌, ◌^◌, ◌<◌, mod-lt, zero-lt-suc}
use lib.Pow.{shl-shr, field}

-- bit n of b
abbrev pub bit_of : ℕ → ℕ → ℕ
bit_of b n = b / 2 ^ n % 2

pub bit-lt : (b n : ℕ) → bit_of b n < 2
bit-lt b n = mod-lt (b / 2 ^ n) (zero-lt-suc 1)

-- moved up to the top and down again, the low w bits are left
pub cut : (v w k : ℕ) → w + k ≡ 64 → v * 2 ^ k % 2 ^ 64 / 2 ^ k ≡ v % 2 ^ w
cut v w k e =
    ap (λ (n : ℕ). v * 2 ^ k % 2 ^ n / 2 ^ k) (sym e) ∙ field (v * 2 ^ k) w k ∙ ap (λ (x : ℕ). x % 2 ^ w) (shl-shr v k)
