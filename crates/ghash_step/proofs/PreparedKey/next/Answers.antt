-- `next` is one step of the hash: each path's product is the field's. Assumes nothing.
use Rattle.std.proofs.Common.{ℕ, ap, subst, ◌∙◌}
use Rattle.gf128.specs.Field.{product}
use Rattle.gf128.specs.Hash.{next}
use Rattle.ghash_block.specs.Block.{key_of}
use Rattle.ghash_step.specs.Path.{tables_for}
use Rattle.ghash_step.specs.declared.Path.{Path}
use Rattle.ghash_step.proofs.PreparedKey.next.Goals as goal

pub returns-in-Plain : goal.returns-in-Plain
unfolding next
returns-in-Plain c = λ prepared. c.product_plain.ensures ∙ ap (λ (x : ℕ). product x (key_of c.args.self.now.key)) c.xor.ensures

pub returns-in-Fast : goal.returns-in-Fast
unfolding next
returns-in-Fast c = λ prepared.
    let h = key_of c.args.self.now.key in
    let tables = subst (λ (p : Path). tables_for p h c.args.self.now.numbers.now) c.in-Fast.is prepared.tables in
    c.product_fast.ensures h tables ∙ ap (λ (x : ℕ). product x h) c.xor-in-Fast.ensures
