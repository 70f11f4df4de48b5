-- `reduced` is the reduction of 32 coefficients. The loop's invariant: after i rounds `high` is that of 4 · i of them and still ends in
-- as many zeros as it has places to go, and `rest` is without them. Assumes nothing.
use Rattle.std.proofs.Common.{◌≡◌, ◌-◌, ◌*◌, ◌/◌, ◌%◌, ◌^◌}
use Rattle.gf128.specs.Field.{shifted}
use Rattle.ghash_tables.specs.Table.{ReductionsIn}
use Rattle.ghash_tables.proofs.reduced.Given as goal

abbrev pub invariant-loop : goal.invariant-loop
invariant-loop l =
    (l.rest ≡ l.v / 2 ^ (4 * l.counter))
    × (ReductionsIn l.t → (l.high % 2 ^ (32 - 4 * l.counter) ≡ 0) × (l.high * 2 ^ 64 ≡ shifted (l.v % 2 ^ (4 * l.counter)) (4 * l.counter)))
