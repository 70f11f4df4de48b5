-- `degree` meets its contract: the lowest set digit of the low half, or else of the high one, is the highest place.
-- Assumes nothing.
use mathlib.Core.Path.{◌≡◌, sym, ap, ap₂, ◌∙◌}
use mathlib.Core.Bool.{Bool, cond}
use Prim.Native.Nat.{ℕ, ◌+◌, ◌*◌, ◌^◌, ◌<◌}
use native.Mathlib.Nat.{add-zero, pos_of_ne-zero}
use native.Mathlib.Omega.{arith}
use lib.Count.{count_trailing_zeros}
use borrow.Author.Tests.{ne_eqb}
use Rattle.ghash_block.specs.Block.{value_of}
use Rattle.gf128.specs.Degree.{degree_of, degree_refusal}
use Rattle.gf128.proofs.Degree.{degree-low, degree-high, degree-none, trailing_lt}
use Rattle.ghash_block.proofs.block.degree.Goals as goal

-- the high half has a set digit
some-high : (c : goal.After-struct_known-then-b-ne0-2-1) → count_trailing_zeros 64 c.args.b.0 < 64
some-high c = trailing_lt 64 c.args.b.0 (pos_of_ne-zero c.if-b-ne0-2.true) (omega arith)

pub returns-then-b-ne0 : goal.returns-then-b-ne0
returns-then-b-ne0 c =
    let b = c.args.b in
    let some : 0 < b.1 = pos_of_ne-zero c.if-b-ne0.true in (
      sym (ap (λ (x : Bool). cond x 12 0) (ne_eqb (value_of b) 0 (omega arith))),
      sym (degree-low b.0 b.1 (trailing_lt 64 b.1 some (omega arith))),
    )

pub returns-then-b-ne0-2 : goal.returns-then-b-ne0-2
returns-then-b-ne0-2 c =
    let b = c.args.b in
    let some : 0 < b.0 = pos_of_ne-zero c.if-b-ne0-2.true in
    let none : b.1 ≡ 0 = c.if-b-ne0.false in (
      sym (ap (λ (x : Bool). cond x 12 0) (ne_eqb (value_of b) 0 (omega arith))),
      sym (ap degree_of (ap (λ (x : ℕ). b.0 * 2 ^ 64 + x) none ∙ add-zero (b.0 * 2 ^ 64)) ∙ degree-high b.0 (some-high c)),
    )

pub returns : goal.returns
returns c =
    let b = c.args.b in
    let e : value_of b ≡ 0 = ap₂ (λ (x y : ℕ). x * 2 ^ 64 + y) c.if-b-ne0-2.false c.if-b-ne0.false in
    (sym (ap degree_refusal e), sym (ap degree_of e ∙ degree-none))
