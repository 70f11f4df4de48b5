-- `Division::turn` keeps the rows and makes the degrees' sum less. Assumes nothing.
use Rattle.std.proofs.Common.{refl}
use Rattle.ghash_inverse.proofs.Euclid.{turned, turned-other}
use Rattle.ghash_inverse.proofs.inverse.Division.turn.Goals as goal

pub invariant_of-result : goal.invariant_of-result
invariant_of-result c =
    let row = c.reduced_by in
    record { rows = (turned-other c.args.self.rows row.result.of_value c.if-first-second.true c.requires row.ensures.0 row.ensures.1).0 }

pub returns-then-first-second : goal.returns-then-first-second
returns-then-first-second c =
    let row = c.reduced_by in
    (refl, (turned-other c.args.self.rows row.result.of_value c.if-first-second.true c.requires row.ensures.0 row.ensures.1).1)

pub invariant_of-result-2 : goal.invariant_of-result-2
invariant_of-result-2 c =
    let row = c.reduced_by-2 in
    record { rows = (turned c.args.self.rows row.result.of_value c.if-first-second.false row.ensures.0 row.ensures.1).0 }

pub returns : goal.returns
returns c =
    let row = c.reduced_by-2 in
    (refl, (turned c.args.self.rows row.result.of_value c.if-first-second.false row.ensures.0 row.ensures.1).1)
