-- A number as two parts, a * 2 ^ k + r: how xor and moves go by the parts, each law over the widths. Main results: `shl-shl`, `shl-mod`,
-- `top_digit` (a digit of any width on top of those below), `halves_lt`, `halves-xor`, `high-xor`, `halves-moved`, `moved-lt` (digits leave
-- the high part for the low one), `halves-low`, `field-in-low` (what the low part alone tells).
-- Assumes nothing.
use mathlib.Core.Path.{◌≡◌, sym, ap, ap₂, subst, ◌∙◌}
use Prim.Native.Nat.{ℕ, ◌+◌, ◌*◌, ◌/◌, ◌%◌, ◌^◌, ◌<◌}
use native.Mathlib.Nat.{add-zero, add_assoc, add_comm, add-mul, mul_assoc, mul_comm, mod-lt, mul-mod_left, mul-add-div_right, mul-add-mod_self_right}
use lib.Arith.{digits_lt}
use lib.Pow.{pow_pos, pow-add, split, shr_lt, shl-shr, mod-pow-add}
use lib.Bits.{bit_xor, xor_block, xor_zero_r, xor_comm, xor_shifted}

-- ---- moves

-- moved up in two parts
pub shl-shl : (x j k : ℕ) → x * 2 ^ (j + k) ≡ x * 2 ^ j * 2 ^ k
shl-shl x j k = ap (λ (y : ℕ). x * y) (pow-add 2 j k) ∙ sym (mul_assoc x (2 ^ j) (2 ^ k))

-- the digits that stay when v moves j digits up
pub shl-mod : (v k j : ℕ) → v * 2 ^ j % 2 ^ (k + j) ≡ v % 2 ^ k * 2 ^ j
shl-mod v k j =
    mod-pow-add (v * 2 ^ j) k j
    ∙ ap₂ (λ (x y : ℕ). x % 2 ^ k * 2 ^ j + y) (shl-shr v j) (mul-mod_left v (2 ^ j))
    ∙ add-zero (v % 2 ^ k * 2 ^ j)

-- k digits, and the j digits on top of them
pub top_digit : (v j k : ℕ) → bit_xor (v % 2 ^ k) (v / 2 ^ k % 2 ^ j * 2 ^ k) ≡ v % 2 ^ (j + k)
top_digit v j k =
    xor_comm (v % 2 ^ k) (v / 2 ^ k % 2 ^ j * 2 ^ k)
    ∙ xor_shifted (v / 2 ^ k % 2 ^ j) k (v % 2 ^ k) (mod-lt v (pow_pos k))
    ∙ sym (mod-pow-add v j k)

-- ---- two parts

pub halves_lt : (k a r : ℕ) → a < 2 ^ k → r < 2 ^ k → a * 2 ^ k + r < 2 ^ (k + k)
halves_lt k a r h l = rw (pow-add 2 k k) (digits_lt h l)

pub halves-xor : (k a b r s : ℕ) → r < 2 ^ k → s < 2 ^ k
    → bit_xor a b * 2 ^ k + bit_xor r s ≡ bit_xor (a * 2 ^ k + r) (b * 2 ^ k + s)
halves-xor k a b r s hr hs = sym (xor_block k a b r s hr hs)

-- the high part alone gains e
pub high-xor : (k a e r : ℕ) → r < 2 ^ k → bit_xor a e * 2 ^ k + r ≡ bit_xor (a * 2 ^ k + r) (e * 2 ^ k)
high-xor k a e r h =
    ap (λ (x : ℕ). bit_xor a e * 2 ^ k + x) (sym (xor_zero_r r))
    ∙ halves-xor k a e r 0 h (pow_pos k)
    ∙ ap (bit_xor (a * 2 ^ k + r)) (add-zero (e * 2 ^ k))

-- parts of i + j digits: j digits leave the high part, and are the highest of the low one
module _ (i j a r : ℕ) where
  pub halves-moved : (a * 2 ^ (i + j) + r) / 2 ^ j ≡ a / 2 ^ j * 2 ^ (i + j) + (r / 2 ^ j + a % 2 ^ j * 2 ^ i)
  halves-moved =
      ap (λ (x : ℕ). (x + r) / 2 ^ j) (shl-shl a i j)
      ∙ mul-add-div_right (pow_pos j) (a * 2 ^ i) r
      ∙ ap (λ (x : ℕ). x + r / 2 ^ j)
      (ap (λ (x : ℕ). x * 2 ^ i) (sym (split a j)) ∙ add-mul (a / 2 ^ j * 2 ^ j) (a % 2 ^ j) (2 ^ i)
      ∙ ap (λ (x : ℕ). x + a % 2 ^ j * 2 ^ i) (sym (shl-shl (a / 2 ^ j) j i) ∙ ap (λ (k : ℕ). a / 2 ^ j * 2 ^ k) (add_comm j i)))
      ∙ add_assoc (a / 2 ^ j * 2 ^ (i + j)) (a % 2 ^ j * 2 ^ i) (r / 2 ^ j)
      ∙ ap (λ (x : ℕ). a / 2 ^ j * 2 ^ (i + j) + x) (add_comm (a % 2 ^ j * 2 ^ i) (r / 2 ^ j))

  pub moved-lt : r < 2 ^ (i + j) → r / 2 ^ j + a % 2 ^ j * 2 ^ i < 2 ^ (i + j)
  moved-lt h =
      subst (λ (x : ℕ). x < 2 ^ (i + j)) (add_comm (a % 2 ^ j * 2 ^ i) (r / 2 ^ j))
      (subst (λ (x : ℕ). a % 2 ^ j * 2 ^ i + r / 2 ^ j < x) (mul_comm (2 ^ j) (2 ^ i) ∙ sym (pow-add 2 i j))
      (digits_lt (mod-lt a (pow_pos j)) (shr_lt i j h)))

  -- the lowest digits are the low part's
  pub halves-low : (a * 2 ^ (i + j) + r) % 2 ^ j ≡ r % 2 ^ j
  halves-low = ap (λ (x : ℕ). (x + r) % 2 ^ j) (shl-shl a i j) ∙ mul-add-mod_self_right (a * 2 ^ i) (2 ^ j) r

-- w digits from digit j on that lie in the low part are its own
pub field-in-low : (a r n j w d : ℕ) → d + w + j ≡ n → (a * 2 ^ n + r) / 2 ^ j % 2 ^ w ≡ r / 2 ^ j % 2 ^ w
field-in-low a r n j w d e =
    ap (λ (x : ℕ). (x + r) / 2 ^ j % 2 ^ w) (ap (λ (k : ℕ). a * 2 ^ k) (sym e) ∙ shl-shl a (d + w) j)
    ∙ ap (λ (x : ℕ). x % 2 ^ w) (mul-add-div_right (pow_pos j) (a * 2 ^ (d + w)) r)
    ∙ halves-low d w a (r / 2 ^ j)
