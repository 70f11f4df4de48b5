-- `read_padded` meets its contract. The loop's invariant: v is the number of the i bytes read.
-- Assumes nothing.
use Rattle.std.proofs.Common.{◌≡◌, ℕ, ◌+◌, ◌*◌, ◌^◌, ◌≤◌, ◌<◌, List, refl, sym, ap₂, ◌∙◌, subst, arith}
use Rattle.std.proofs.Math.Nat.{lt_of_lt_of_le, pow-le-pow_right, zero-lt-suc}
use Rattle.octets.specs.BigEndian.{be_at}
use Rattle.octets.specs.Bytes.{AreBytes}
use Rattle.octets.proofs.BigEndian.{be_at-next, be_at-lt}
use Rattle.octets.proofs.read_padded.Goals as goal

-- fewer than 8 bytes are read, so another one fits
room : (s : List ℕ) → AreBytes s → (at i v : ℕ) → i ≤ 7 → v ≡ be_at s at i → v < 256 ^ 7
room s b at i v few e =
    lt_of_lt_of_le (subst (λ (x : ℕ). x < 256 ^ i) (sym e) (be_at-lt s b at i)) (pow-le-pow_right (zero-lt-suc 255) few)

pub loop-i-init : goal.loop-i-init
unfolding be_at
loop-i-init c = refl

pub overflow_mul-v : goal.overflow_mul-v
overflow_mul-v c =
    omega (arith, room c.args.s.now (λ j. (c.type_inv.s j).fits) c.args.at c.loop-i.i c.loop-i.v (omega arith) c.loop-i.invariant)

pub overflow_add-v : goal.overflow_add-v
overflow_add-v c =
    omega (
      arith,
      room c.args.s.now (λ j. (c.type_inv.s j).fits) c.args.at c.loop-i.i c.loop-i.v (omega arith) c.loop-i.invariant,
      c.type_inv.s (c.args.at + c.loop-i.i),
    )

pub loop-i-preserved : goal.loop-i-preserved
loop-i-preserved c =
    ap₂ (λ (p q : ℕ). p * 256 + q) c.loop-i.invariant c.byte_or_zero.ensures
    ∙ sym (be_at-next c.args.s.now c.args.at c.loop-i.i)
