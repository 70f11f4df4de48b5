-- `fed_all` feeds A after an empty piece, then C. Assumes nothing.
use Rattle.known_hashes.proofs.Feeding.{all-fed}
use Rattle.known_hashes.proofs.pieces.fed_all.Goals as goal

pub returns : goal.returns
returns c =
    let args = c.args in
    all-fed args.key.now args.a.now args.c.now c.new.result c.fed-begun.result c.feed-after_a.result c.feed.result
    c.new.ensures.0 c.fed-begun.ensures c.feed-after_a.ensures c.feed.ensures
