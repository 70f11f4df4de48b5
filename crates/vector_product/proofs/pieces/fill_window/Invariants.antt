-- `fill_window` fills the window of a number. The loop's invariant: the entries below 2·n are there.
-- Assumes nothing.
use Rattle.std.proofs.Common.{◌≡◌, ℕ, ◌*◌, ◌<◌, length, get_or}
use Rattle.vector_product.specs.Pieces.{even_products}
use Rattle.vector_product.proofs.pieces.fill_window.Given as goal

abbrev pub invariant-loop-n : goal.invariant-loop-n
invariant-loop-n l = (length l.t ≡ 16) × ((k : ℕ) → k < 2 * l.n → get_or l.t k 0 ≡ even_products l.a k)
