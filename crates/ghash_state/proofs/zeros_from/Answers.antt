-- `zeros_from` tests each byte from the place on. Assumes nothing.
use Rattle.std.proofs.Common.{rules, tests, ◌∙◌, drop, nat_eq}
use Rattle.std.proofs.lemmas.Iterator.{YieldsList-from_slice}
use Rattle.std.proofs.lemmas.Iterator.Adapters.{YieldsList-from_skip}
use Rattle.std.proofs.lemmas.Iterator.Search.{all_from_yields_List}
use Rattle.ghash_state.proofs.Zeros.{list_all-zero}
use Rattle.ghash_state.proofs.zeros_from.Goals as goal

pub returns : goal.returns
returns c =
    all_from_yields_List (λ b. nat_eq b 0) _ _ c.all.result c.all.ensures.ran
    (YieldsList-from_skip c.args.from (YieldsList-from_slice c.args.s.now cc) cc) (λ x b q k. search (rules, tests))
    ∙ list_all-zero (drop c.args.from c.args.s.now)
