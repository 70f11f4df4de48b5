-- `in_pieces` feeds all pieces and finishes. Assumes nothing.
use Rattle.std.proofs.Common.{ap, ◌∙◌}
use Rattle.ghash_block.specs.Block.{value_of}
use Rattle.known_hashes.proofs.Feeding.{all-in-pieces}
use Rattle.known_hashes.proofs.pieces.in_pieces.Goals as goal

pub returns : goal.returns
returns c =
    let args = c.args in
    let finished = c.finish-end.ensures in
    rw c.number_of.ensures (all-in-pieces args.key.now args.a.now args.c.now c.fed_all-last.result _ _ c.hash_of.result c.fed_all-last.ensures
    (finished.0, ap value_of c.hash_of.ensures ∙ finished.1))
