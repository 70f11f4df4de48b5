-- `Block::xor` meets its contract: xor goes by the halves. Assumes nothing.
use native.Mathlib.Omega.{arith}
use Rattle.gf128.proofs.Halves.{halves-xor}
use Rattle.ghash_block.proofs.block.Block.xor.Goals as goal

pub returns : goal.returns
returns c =
    let a = c.args in
    halves-xor 64 a.self.0 a.other.0 a.self.1 a.other.1 (omega arith) (omega arith)
