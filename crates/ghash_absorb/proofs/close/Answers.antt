-- `close` ends A or C. Assumes nothing.
use Rattle.std.proofs.Common.{refl, sym, ap, ◌∙◌}
use Rattle.gf128.specs.Hash.{next}
use Rattle.gf128.proofs.Parts.{part_same, closed-whole, closed-open}
use Rattle.ghash_block.specs.Block.{key_of}
use Rattle.ghash_state.specs.State.{part_of}
use Rattle.ghash_absorb.proofs.close.Goals as goal

pub returns-then-n-eq0 : goal.returns-then-n-eq0
returns-then-n-eq0 c = λ w. sym (closed-whole (key_of c.args.key.now.key) c.args.n (part_of c.args.p) c.if-n-eq0.true)

pub returns : goal.returns
returns c = λ w.
    let h = key_of c.args.key.now.key in
    let p = part_of c.args.p in
    c.none_open.ensures ∙ part_same (c.next.ensures w ∙ ap (next h p.y) c.block_at.ensures) refl ∙ sym (closed-open h c.args.n p c.if-n-eq0.false)
