-- `write_le` writes the n low bytes of a number. The loop's invariant is what is left: to write the bytes that are left
-- from place i on to the slice as it stands is to write all of them to the slice at entry.
-- Assumes nothing.
use Rattle.std.proofs.Common.{◌≡◌, ℕ, ◌+◌, ◌-◌, ◌/◌, List, sym, ap, ◌∙◌, arith}
use Rattle.octets.specs.LittleEndian.{write_le}
use Rattle.octets.proofs.LittleEndian.{write-past, write-more}
use Rattle.octets_le.proofs.write_le.Goals as goal

pub returns-then-s-at : goal.returns-then-s-at
returns-then-s-at c = sym (write-past c.args.n c.args.s.now c.args.at c.args.v c.if-s-at.true)

pub loop-i-preserved : goal.loop-i-preserved
loop-i-preserved c =
    let at = c.args.at in
    let n = c.args.n in
    let i = c.loop-i.i in
    let left = c.loop-i.left in
    ap (λ (f : List ℕ). write_le (n - (i + 1)) f (at + (i + 1)) (left / 256)) c.put_byte.ensures
    ∙ sym (write-more c.loop-i.s at n i left c.loop-i-test.true)
    ∙ c.loop-i.invariant

pub returns : goal.returns
unfolding write_le
returns c =
    let i = c.loop-i.i in
    let e : c.args.n - i ≡ 0 = omega arith in
    sym (ap (λ (k : ℕ). write_le k c.loop-i.s (c.args.at + i) c.loop-i.left) e) ∙ c.loop-i.invariant
