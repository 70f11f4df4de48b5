-- `Division::start` gives the rows of a division. Assumes nothing.
use Rattle.std.proofs.Common.{◌≡◌, ◌<◌, ◌^◌, arith, ap, ◌∙◌}
use Rattle.ghash_block.specs.Block.{value_of}
use Rattle.gf128.specs.Degree.{degree_of}
use Rattle.gf128.specs.Field.{times_x}
use Rattle.gf128.proofs.Division.{degree-le}
use Rattle.gf128.proofs.Halves.{halves_lt}
use Rattle.ghash_inverse.proofs.Euclid.{started, degree-positive}
use Rattle.ghash_inverse.proofs.inverse.Division.start.Goals as goal

pub overflow_sub-d : goal.overflow_sub-d
overflow_sub-d c = omega (arith, degree-le (value_of c.new-second.result.value))

pub overflow_sub-d-2 : goal.overflow_sub-d-2
overflow_sub-d-2 c = omega (arith, degree-le (value_of c.new-second.result.value))

pub shift-requires-2 : goal.shift-requires-2
shift-requires-2 c =
    let second = c.new-second in
    let h = c.args.h in
    let degree : second.result.degree ≡ degree_of (value_of h) = second.result.of_value ∙ ap (λ b. degree_of (value_of b)) second.ensures.0 in
    omega (arith, degree-positive (value_of h) (halves_lt 64 h.0 h.1 (omega arith) (omega arith)) c.requires.0 c.requires.1)

pub invariant_of-result : goal.invariant_of-result
invariant_of-result c =
    let first = c.new-first in
    let second = c.new-second in
    let h = c.args.h in
    let key : value_of second.result.value ≡ value_of h = ap value_of second.ensures.0 in
    let degree : second.result.degree ≡ degree_of (value_of h) = second.result.of_value ∙ ap degree_of key in
    let block : value_of h < 2 ^ 128 = halves_lt 64 h.0 h.1 (omega arith) (omega arith) in
    record {
      rows = started block c.requires.0 (rw degree (degree-positive (value_of h) block c.requires.0 c.requires.1)) degree
          (ap value_of first.ensures.0 ∙ c.times_x.ensures ∙ ap times_x c.shift.ensures)
          (ap value_of first.ensures.1 ∙ c.shift-2.ensures) first.result.of_value key (ap value_of second.ensures.1);
    }
