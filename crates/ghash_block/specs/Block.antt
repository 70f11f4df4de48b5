-- The number that a block and a key stand for: the high half first.
-- Assumes nothing.
use Rattle.std.specs.Prelude.{ℕ, ◌+◌, ◌*◌, ◌^◌}
use Rattle.ghash_block.specs.declared.block.Block.{Block}
use Rattle.ghash_block.specs.declared.block.Key.{Key}

abbrev pub value_of : Block → ℕ
value_of b = b.0 * 2 ^ 64 + b.1

abbrev pub key_of : Key → ℕ
key_of h = h.0 * 2 ^ 64 + h.1
