-- `agrees` compares the hash by the key's square with the expected one. Assumes nothing.
use Rattle.std.proofs.Common.{ℕ, eqb, ap, ap₂, ◌∙◌, arith, bit_xor}
use Rattle.gf128.specs.Field.{product}
use Rattle.ghash_block.specs.Block.{key_of}
use Rattle.link_many.proofs.Records.{same_blocks, agrees_by_square}
use Rattle.link_many.proofs.LinkKey.agrees.Goals as goal

pub returns : goal.returns
returns c =
    let h = key_of c.args.self.now.key in
    let ready = c.args.self.now.prepared in
    c.eq.ensures ∙ same_blocks _ _ (omega (arith, c.xor-hash.type_inv)) (omega (arith, c.block_at-2.type_inv))
    ∙ ap₂ eqb
    (c.xor-hash.ensures
    ∙ ap₂ bit_xor
    (c.product_fast.ensures (product h h) ready.tables ∙ ap (λ (x : ℕ). product x (product h h)) c.block_at.ensures)
    ready.lengths)
    c.block_at-2.ensures
    ∙ agrees_by_square h c.args.link.now ready.key c.requires
