-- `feed` feeds all of the slice, in pieces: the loop's invariant is that it has fed what is before the place. Each piece starts before its
-- end, so what is left falls. Assumes nothing.
use native.Mathlib.Omega.{arith}
use Rattle.known_hashes.proofs.Feeding.{none-fed, one-fed}
use borrow.Author.Rules.{rules}
use Rattle.known_hashes.proofs.pieces.feed.Goals as goal

pub loop-at-init : goal.loop-at-init
loop-at-init c = (search rules, none-fed _ _ c.args.s.now _)

pub loop-at-preserved : goal.loop-at-preserved
loop-at-preserved c =
    let args = c.args in (
      search rules,
      one-fed args.part args.key.now args.s.now args.before c.loop-at.last c.fed-last.result c.loop-at.at c.piece_end-end.result
          (omega arith) c.loop-at.invariant.1 c.fed-last.ensures,
    )
