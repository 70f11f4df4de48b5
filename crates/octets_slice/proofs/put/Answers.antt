-- `put` puts the bytes one after the other. Assumes nothing.
use Rattle.std.proofs.Common.{sym, ◌∙◌, ◌-◌, arith, rules}
use Rattle.octets.proofs.Stores.{sets-past, sets-cut}
use Rattle.octets_slice.proofs.Puts.{sets-next}
use Rattle.octets_slice.proofs.put.Goals as goal

pub returns-then-s-at : goal.returns-then-s-at
returns-then-s-at c = sym (sets-past c.args.s.now c.args.part.now c.args.at (omega arith))

pub loop-i-preserved : goal.loop-i-preserved
loop-i-preserved c =
    (search rules, sets-next _ c.args.part.now _ _ c.loop-i.i (search rules) (omega arith) c.loop-i.invariant.1)

pub returns : goal.returns
returns c = c.loop-i.invariant.1 ∙ sets-cut c.args.s.now c.args.part.now c.args.at (c.loop-i.i - c.args.at) (omega arith)
