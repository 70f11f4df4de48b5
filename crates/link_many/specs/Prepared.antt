-- What a call has at hand for all of its records. The hash of a claim block X is (X·H xor L)·H, where L is the length block; that is
-- X·H² xor L·H. So a record takes one product, by the tables of H², and L·H is the same for all.
-- Assumes nothing.
use Rattle.std.specs.Prelude.{◌≡◌, List, ℕ, ◌^◌, ◌<◌}
use Rattle.gf128.specs.Field.{product}
use Rattle.gf128.specs.Hash.{length_block}
use Rattle.ghash_tables.specs.Table.{TableOf}

-- the tables t are those of H², and the number `last` is L·H
pub record Prepared (h : ℕ) (t : List ℕ) (last : ℕ) : Type 0 where
  pub key : h < 2 ^ 128
  pub tables : TableOf (product h h) t
  pub lengths : last ≡ product (length_block 16 0) h
