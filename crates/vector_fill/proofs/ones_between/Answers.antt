-- `ones_between` writes ones bits to a range of bytes, as far as the file goes.
-- Assumes nothing.
use Rattle.std.proofs.Common.{◌≡◌, ℕ, List, ◌-◌, replicate, sym, ap, ◌∙◌, arith, rules}
use borrow.Rule.Slice.PartMut.{put_mid}
use Rattle.vector_fill.specs.Fill.{ones_between}
use Rattle.vector_fill.proofs.Ones.{no_run, ones_run}
use Rattle.vector_fill.proofs.ones_between.Goals as goal

pub returns-then-from-end : goal.returns-then-from-end
unfolding ones_between
returns-then-from-end c =
    let from = c.args.from in
    let file = c.args.file.now in
    let count = c.min-end.result - from in
    let ones : c.fill.new.self ≡ replicate count 255 = search rules in
    ap (λ (part : List ℕ). put_mid from count file part) ones ∙ sym (ones_run (c.args.to - from) from count file (omega (arith, c.min-end.ensures)))

pub returns-else-from-end : goal.returns-else-from-end
unfolding ones_between
returns-else-from-end c =
    let from = c.args.from in
    let file = c.args.file.now in
    no_run from file ∙ sym (ones_run (c.args.to - from) from 0 file (omega (arith, c.min-end.ensures)))
