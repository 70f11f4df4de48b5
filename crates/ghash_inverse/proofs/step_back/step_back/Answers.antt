-- `step_back` meets its contract: what the inverse's answer promises decides which of the three answers it is. Assumes nothing.
use Rattle.std.proofs.Common.{sym, ap, ◌∙◌, subst, arith, ℕ}
use Rattle.std.proofs.lemmas.Bool.Decides.{nat_tests}
use Rattle.std.specs.Int.Bits.{bit_xor}
use Rattle.ghash_block.specs.Block.{value_of, key_of}
use Rattle.gf128.specs.Field.{product}
use Rattle.gf128.specs.StepBack.{StepsBack}
use Rattle.gf128.proofs.StepBack.{steps_back, steps-none, steps-many}
use Rattle.gf128.proofs.Halves.{halves_lt}
use Rattle.ghash_inverse.proofs.step_back.step_back.Goals as goal

pub returns-in-Some : goal.returns-in-Some
returns-in-Some c =
    let h = c.args.h in
    let x = c.args.x in
    let later = c.args.later in
    let i = c.in-Some.i in
    let told = c.in-Some.ensures in
    subst (StepsBack (key_of h) (value_of x) (value_of later) 0)
    (sym (c.xor-y.ensures ∙ ap (λ (v : ℕ). bit_xor v (value_of x)) (c.product_plain.ensures ∙ ap (product (value_of later)) c.from.ensures)))
    (steps_back (key_of h) (value_of x) (value_of later) (value_of i)
    (halves_lt 64 h.0 h.1 (omega arith) (omega arith))
    (halves_lt 64 x.0 x.1 (omega arith) (omega arith))
    (halves_lt 64 later.0 later.1 (omega arith) (omega arith))
    (halves_lt 64 i.0 i.1 (omega arith) (omega arith))
    told.0 told.1)

pub returns-in-None : goal.returns-in-None
returns-in-None c =
    steps-many (key_of c.args.h) (value_of c.args.x) (value_of c.args.later) c.in-None.ensures (grind (arith, nat_tests))

pub returns-in-None-2 : goal.returns-in-None-2
returns-in-None-2 c =
    steps-none (key_of c.args.h) (value_of c.args.x) (value_of c.args.later) c.in-None.ensures (grind (arith, nat_tests))
