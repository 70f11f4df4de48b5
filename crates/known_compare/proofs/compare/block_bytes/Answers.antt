-- `block_bytes` gives the block's bytes: all sixteen zeros are overwritten. Assumes nothing.
use Rattle.std.proofs.Common.{rules}
use Rattle.octets.specs.BigEndian.{be_bytes}
use Rattle.known_compare.proofs.compare.block_bytes.Goals as goal

pub returns : goal.returns
unfolding be_bytes
returns c = search rules
