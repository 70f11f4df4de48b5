-- The loop's invariant: z and v are document 01's Z and V after k places.
-- Assumes nothing.
use Rattle.std.proofs.Common.{◌≡◌}
use Rattle.ghash_block.specs.Block.{value_of}
use Rattle.gf128.specs.Field.{sum_of, shifted, reduction}
use Rattle.ghash_plain.proofs.product_plain.Given as goal

abbrev pub invariant-loop-k : goal.invariant-loop-k
invariant-loop-k l =
    (value_of l.z ≡ sum_of 127 reduction (value_of l.u) (value_of l.initial.v) l.k) × (value_of l.v ≡ shifted (value_of l.initial.v) l.k)
