-- `even_pieces` keeps the low 8 bits of each lane.
-- Assumes nothing.
use Rattle.std.proofs.Common.{◌≡◌, refl, ap, ◌∙◌, bit_and}
use Rattle.vector_product.proofs.Lanes.{mask, masked}
use Rattle.vector_product.proofs.pieces.even_pieces.Goals as goal

pub returns : goal.returns
unfolding mask
returns c =
    let four : 0x00FF00FF00FF00FF ≡ mask 4 = refl in
    ap (bit_and c.args.a) four ∙ masked 4 c.args.a
