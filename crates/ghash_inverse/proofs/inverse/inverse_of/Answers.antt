-- `inverse_of` meets its contract: the one block is its own inverse, and at the loop's end the first row has the inverse. Assumes nothing.
use Rattle.std.proofs.Common.{ap, ◌∙◌, subst, arith, ℕ, ◌≡◌, ◌≢◌}
use Rattle.std.proofs.lemmas.Bool.Decides.{nat_tests}
use Rattle.ghash_block.specs.Block.{value_of, key_of}
use Rattle.gf128.specs.Field.{product, one}
use Rattle.gf128.proofs.Field.{product-one-left}
use Rattle.ghash_inverse.proofs.Euclid.{ended}
use Rattle.ghash_inverse.proofs.inverse.inverse_of.Goals as goal

pub returns-then-eq-2 : goal.returns-then-eq-2
returns-then-eq-2 c =
    let key : key_of c.args.h ≡ one = grind (arith, nat_tests) in
    rw (c.from-v.ensures, key) (product-one-left one, λ z. omega arith)

pub returns : goal.returns
returns c =
    let division = c.loop-division.division in
    let same = ap value_of c.loop-division.invariant ∙ ap value_of c.start-division.ensures ∙ c.from-v.ensures in
    subst (λ (k : ℕ). (product (value_of division.first.factor) k ≡ one) × (k ≢ 0)) same (ended division.rows c.loop-division-test.false)
