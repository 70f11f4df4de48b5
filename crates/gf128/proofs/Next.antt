-- One hash step, (Y xor X)·H: the zero key leads to zero (`next-zero`); under a key that is not zero different partial hashes
-- (`next-cancel`) and different blocks (`next-cancel-block`) stay different.
-- Assumes nothing.
use mathlib.Core.Path.{◌≡◌, sym, ap, ◌∙◌}
use mathlib.Core.Logic.{◌≢◌}
use Prim.Native.Nat.{ℕ, ◌^◌, ◌<◌}
use lib.Bits.{bit_xor, xor_comm}
use Rattle.gf128.specs.Field.{product}
use Rattle.gf128.specs.Hash.{next}
use Rattle.gf128.proofs.Xor.{xor-cancel-right}
use Rattle.gf128.proofs.Field.{product_lt, product-zero-right, product-xor-left, product-cancel-right}

pub next-lt : (h y x : ℕ) → h < 2 ^ 128 → next h y x < 2 ^ 128
unfolding next
next-lt h y x hh = product_lt (bit_xor y x) h hh

pub next-zero : (y x : ℕ) → next 0 y x ≡ 0
unfolding next
next-zero y x = product-zero-right (bit_xor y x)

-- under a key that is not zero different partial hashes stay different
pub next-cancel : (h y z x : ℕ) → h < 2 ^ 128 → h ≢ 0 → y < 2 ^ 128 → z < 2 ^ 128 → next h y x ≡ next h z x → y ≡ z
unfolding next
next-cancel h y z x hh h0 hy hz e =
    product-cancel-right y z h hy hz hh h0
    (sym (xor-cancel-right (product y h) (product x h))
    ∙ ap (λ (v : ℕ). bit_xor v (product x h)) (sym (product-xor-left y x h) ∙ e ∙ product-xor-left z x h)
    ∙ xor-cancel-right (product z h) (product x h))

-- and so do different blocks
pub next-cancel-block : (h y x z : ℕ) → h < 2 ^ 128 → h ≢ 0 → x < 2 ^ 128 → z < 2 ^ 128 → next h y x ≡ next h y z → x ≡ z
unfolding next
next-cancel-block h y x z hh h0 hx hz e =
    next-cancel h x z y hh h0 hx hz
    (ap (λ (v : ℕ). product v h) (xor_comm x y) ∙ e ∙ ap (λ (v : ℕ). product v h) (xor_comm y z))
