-- `read_le` gives the number in n bytes. The loop's invariant: v is the number in the bytes from place i on.
-- Assumes nothing.
use Rattle.std.proofs.Common.{◌≡◌, ℕ, ◌+◌, ◌-◌, ◌*◌, ◌^◌, ◌≤◌, ◌<◌, List, sym, ap, ap₂, ◌∙◌, arith}
use Rattle.std.proofs.Math.Nat.{lt_of_lt_of_le, pow-le-pow_right, zero-lt-suc}
use Rattle.octets.specs.Bytes.{AreBytes}
use Rattle.octets.specs.LittleEndian.{read_le}
use Rattle.octets.proofs.LittleEndian.{read_past, read_more, read-lt}
use Rattle.octets_le.proofs.read_le.Goals as goal

-- what is read so far leaves room for one more byte
room : (s : List ℕ) → AreBytes s → (at n i v : ℕ) → n - i ≤ 7 → v ≡ read_le s (at + i) (n - i) → v < 256 ^ 7
room s b at n i v short e = omega (arith, lt_of_lt_of_le (read-lt s (at + i) (n - i) b) (pow-le-pow_right (zero-lt-suc 255) short))

pub returns-then-s-at : goal.returns-then-s-at
returns-then-s-at c = sym (read_past c.args.s.now c.args.at c.args.n c.if-s-at.true)

pub loop-i-init : goal.loop-i-init
unfolding read_le
loop-i-init c =
    let e : c.args.n - c.args.n ≡ 0 = omega arith in
    sym (ap (read_le c.args.s.now (c.args.at + c.args.n)) e)

pub overflow_mul-v : goal.overflow_mul-v
overflow_mul-v c = omega (arith, room c.args.s.now (λ k. (c.type_inv.s k).fits) c.args.at c.args.n c.loop-i.i c.loop-i.v (omega arith) c.loop-i.invariant)

pub overflow_add-v : goal.overflow_add-v
overflow_add-v c =
    let b = c.type_inv.s (c.args.at + (c.loop-i.i - 1)) in
    omega (arith, room c.args.s.now (λ k. (c.type_inv.s k).fits) c.args.at c.args.n c.loop-i.i c.loop-i.v (omega arith) c.loop-i.invariant, b)

pub loop-i-preserved : goal.loop-i-preserved
loop-i-preserved c =
    let i = c.loop-i.i in
    let s = c.args.s.now in
    let at = c.args.at in
    let n = c.args.n in
    let e : i ≡ i - 1 + 1 = omega arith in
    ap₂ (λ (x y : ℕ). x * 256 + y) (c.loop-i.invariant ∙ ap (λ (k : ℕ). read_le s (at + k) (n - k)) e) c.byte_or_zero.ensures
    ∙ sym (read_more s at n (i - 1) (omega arith))
