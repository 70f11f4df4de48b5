-- `clmul64` meets its definition.
-- Assumes nothing.
use Rattle.std.proofs.Common.{◌≡◌, ◌+◌, ◌-◌, ◌*◌, ◌/◌, ◌%◌, ◌^◌, get_or, refl, sym, ap, ap₂, ◌∙◌, arith}
use Rattle.std.proofs.Math.Nat.{mul-one}
use Rattle.std.proofs.Math.Pow.{shl_exact}
use Rattle.vector_product.specs.Clmul.{clmul64}
use Rattle.vector_product.specs.Pieces.{piece, even_products, sum, sum_of_products}
use Rattle.vector_product.proofs.FromPieces.{whole-from-pieces}
use Rattle.vector_product.proofs.Gathered.{piece_read, turn}
use Rattle.vector_product.proofs.clmul.clmul64.Goals as goal

pub loop-piece-init : goal.loop-piece-init
unfolding sum
loop-piece-init c = refl

pub loop-piece-preserved : goal.loop-piece-preserved
loop-piece-preserved c =
    let a = c.args.a in
    let b = c.args.b in
    let j = c.loop-piece.piece-index in
    let read : c.from-piece.result % 2 ^ 8 ≡ piece j b = ap (λ x. x % 2 ^ 8) (c.from-piece.ensures ∙ ap (λ t. get_or t j 0) c.to_le_bytes-piece-items.ensures) ∙ piece_read b j c.loop-piece-test.true in
    turn a b j c.loop-piece.high c.loop-piece.low c.even_products.result c.even_products-in-loop-piece.result c.loop-piece-test.true (omega arith)
    (c.even_products.ensures a c.fill_window.ensures ∙ ap (even_products a) read)
    (c.even_products-in-loop-piece.ensures (a / 2 ^ 8) c.fill_window-2.ensures ∙ ap (even_products (a / 2 ^ 8)) read)
    c.loop-piece.invariant

pub returns : goal.returns
unfolding clmul64
returns c =
    let a = c.args.a in
    let b = c.args.b in
    let done : c.loop-piece.piece-index ≡ 8 = omega arith in
    ap₂ (λ x y. x + y) (ap (λ x. x * 2 ^ 64 % 2 ^ 128) c.from.ensures ∙ shl_exact 64 64 128 (omega arith) (omega arith)) c.from-2.ensures ∙ c.loop-piece.invariant ∙ ap (λ j. sum_of_products 8 j a b * 2 ^ (64 - 8 * j)) done
    ∙ mul-one (sum_of_products 8 8 a b) ∙ sym (whole-from-pieces 8 8 a b c.ranges.a.fits)
