-- `fill_tables` fills the tables. The loop's invariant: before round q the first q tables stand, and v is the key times x ^ (32 · (q - 1)).
-- Assumes nothing.
use Rattle.std.proofs.Common.{◌≡◌, ◌-◌, ◌*◌}
use Rattle.gf128.specs.Field.{shifted}
use Rattle.ghash_block.specs.Block.{value_of}
use Rattle.ghash_tables.specs.Table.{TablesTo}
use Rattle.ghash_tables.proofs.fill_tables.Given as goal

abbrev pub invariant-loop-q : goal.invariant-loop-q
invariant-loop-q l = TablesTo l.q (value_of l.initial.v) l.t × (value_of l.v ≡ shifted (value_of l.initial.v) (32 * (l.q - 1)))
