-- `clmul64` meets its definition. The loop's invariant: the two halves hold the products of a's pieces with the pieces of b
-- that are done, moved up by the bits that are still to come.
-- Assumes nothing.
use Rattle.std.proofs.Common.{◌≡◌, ◌+◌, ◌-◌, ◌*◌, ◌^◌}
use Rattle.vector_product.specs.Pieces.{sum_of_products}
use Rattle.vector_product.proofs.clmul.clmul64.Given as goal

abbrev pub invariant-loop-piece : goal.invariant-loop-piece
invariant-loop-piece l = l.high * 2 ^ 64 + l.low ≡ sum_of_products 8 l.piece-index l.a l.b * 2 ^ (64 - 8 * l.piece-index)
