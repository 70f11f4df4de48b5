-- `hash_of` is the hash of a whole A and C within the limit. Assumes nothing.
use Rattle.std.proofs.Common.{sym, ap, ap₂, ◌∙◌, ℕ}
use Rattle.gf128.specs.Hash.{next, over, blocks_of, ghash}
use Rattle.gf128.proofs.Hash.{ghash-parts}
use Rattle.ghash_block.specs.Block.{key_of}
use Rattle.ghash_whole.proofs.hash_of.Goals as goal

pub returns : goal.returns
returns c =
    let a = c.args in
    let h : ℕ = key_of c.new-prepared.result.key in
    let w = c.new-prepared.ensures.prepared in
    c.next.ensures w
    ∙ ap₂ (next h)
    (c.over_blocks-after_c.ensures w
    ∙ ap (λ (y : ℕ). over h y (blocks_of a.c.now)) (c.over_blocks-after_a.ensures w))
    c.length_block.ensures
    ∙ sym (ghash-parts h a.a.now a.c.now)
    ∙ ap (λ (k : ℕ). ghash k a.a.now a.c.now) (ap key_of c.new-prepared.ensures.key_kept)
