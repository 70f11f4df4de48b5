-- `short_at` gives a number of at most 4 bytes: it is under 2^32.
-- Assumes nothing.
use Rattle.std.proofs.Common.{◌+◌, ◌≤◌, lt_of_lt_of_le, zero-lt-suc, arith}
use native.Mathlib.Nat.{pow-le-pow_right}
use Rattle.octets.specs.Bytes.{AreBytes}
use Rattle.octets.proofs.LittleEndian.{read-lt}
use Rattle.trace_record.proofs.short_at.Goals as goal

pub overflow_cast-result : goal.overflow_cast-result
overflow_cast-result c =
    let a = c.args in
    let bytes : AreBytes a.trace.now = λ k. (c.type_inv.trace k).fits in
    let few : a.n ≤ 4 = omega arith in
    omega (
      arith,
      lt_of_lt_of_le (read-lt a.trace.now (a.at + a.place) a.n bytes) (pow-le-pow_right (zero-lt-suc 255) few),
      c.number_at.ensures,
    )
