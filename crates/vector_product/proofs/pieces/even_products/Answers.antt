-- `even_products` adds two entries of the window: the low four bits of the piece, and the high four moved up.
-- Assumes nothing.
use Rattle.std.proofs.Common.{ap₂, ◌∙◌, ℕ, ◌*◌, ◌/◌, ◌%◌, ◌^◌, mod-lt, bit_xor, pow_pos}
use Rattle.vector_product.proofs.Lanes.{looked-up}
use Rattle.vector_product.proofs.pieces.even_products.Goals as goal

pub returns : goal.returns
returns c a window =
    let b = c.args.b in
    ap₂ (λ (x y : ℕ). bit_xor x (y * 2 ^ 4 % 2 ^ 64)) (window.entry (b % 2 ^ 4) (mod-lt b (pow_pos 4))) (window.entry (b / 2 ^ 4 % 2 ^ 4) (mod-lt (b / 2 ^ 4) (pow_pos 4)))
    ∙ looked-up a b
