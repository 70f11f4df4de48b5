-- `fill_window` fills the window of a number. The loop's invariant: the entries below 2·n are there.
-- Assumes nothing.
use Rattle.std.proofs.Common.{◌≡◌, ◌*◌, ◌%◌, ◌^◌, bit_xor, sym, ap, ap₂, ◌∙◌, arith, rules, below_none}
use Rattle.vector_product.specs.Pieces.{even_products}
use Rattle.vector_product.proofs.Lanes.{window-zero, window-one, window-moved, window-next, two-more}
use Rattle.vector_product.proofs.pieces.fill_window.Goals as goal

pub loop-n-init : goal.loop-n-init
loop-n-init c =
    let a = c.args.a in
    (search rules, two-more (even_products a) c.args.t.now 0 0 _ (omega arith) (below_none _) (sym (window-zero a)) (c.even_pieces-one.ensures ∙ window-one a))

pub loop-n-preserved : goal.loop-n-preserved
loop-n-preserved c =
    let a = c.args.a in
    let n = c.loop-n.n in
    let entries = c.loop-n.invariant.1 in
    let twice : n * 2 ≡ 2 * n = omega arith in
    let double = ap (λ x. x * 2 % 2 ^ 64) (entries n (omega arith)) ∙ window-moved a n 1 (omega arith) (omega arith) ∙ ap (even_products a) twice in
    let next = ap₂ bit_xor double (c.even_pieces-one.ensures ∙ window-one a) ∙ window-next a n in
    (search rules, λ k h. two-more (even_products a) c.loop-n.t (2 * n) _ _ (omega arith) entries double next k (omega arith))
