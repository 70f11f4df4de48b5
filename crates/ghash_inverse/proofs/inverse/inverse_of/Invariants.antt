-- The loop of `inverse_of` stays at one key. The measure is the sum of the degrees. Assumes nothing.
use Rattle.std.proofs.Common.{◌≡◌, ◌+◌}
use Rattle.ghash_inverse.proofs.inverse.inverse_of.Given as goal

abbrev pub invariant-loop-division : goal.invariant-loop-division
invariant-loop-division l = l.division.h ≡ l.initial.division.h

abbrev pub decreases-loop-division : goal.decreases-loop-division
decreases-loop-division l = l.division.first.degree + l.division.second.degree
