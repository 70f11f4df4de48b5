-- SEW is allowed wherever the word is not refused. Assumes nothing.
use Rattle.std.proofs.Common.{sym}
use Rattle.vector_execute.proofs.Admitted.{admitted-as, sew-allowed}
use Rattle.vector_execute.proofs.execute.execute.Goals as goal

pub invariant_of-elements : goal.invariant_of-elements
invariant_of-elements c =
    let s = c.args.s.now in
    let done = c.in_ok-i.ensures in
    record { sew_is_allowed = sew-allowed s (admitted-as _ _ s done.decoded (sym done.number)).not3 }
