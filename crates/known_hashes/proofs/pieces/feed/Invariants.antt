-- `feed` feeds all of the slice, in pieces: the loop's invariant is that it has fed what is before the place. Each piece starts before its
-- end, so what is left falls. Assumes nothing.
use Prim.Native.Nat.{◌≤◌, ◌-◌}
use lib.ListN.{length, take}
use Rattle.known_hashes.specs.Pieces.{FedIn}
use Rattle.known_hashes.proofs.pieces.feed.Given as goal

abbrev pub invariant-loop-at : goal.invariant-loop-at
invariant-loop-at l = (l.at ≤ length l.s) × FedIn l.part l.key l.initial.last (take l.at l.s) l.last

abbrev pub decreases-loop-at : goal.decreases-loop-at
decreases-loop-at l = length l.s - l.at
