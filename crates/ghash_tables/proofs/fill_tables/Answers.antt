-- `fill_tables` fills the tables: a turn of the loop is one table more, of the key times x 32 times more. Assumes nothing.
use Rattle.std.proofs.Common.{◌≡◌, ℕ, ◌+◌, ◌-◌, ◌*◌, refl, sym, ap, ◌∙◌, arith}
use Rattle.ghash_block.specs.Block.{value_of}
use Rattle.gf128.specs.Field.{reduction, shifted_of, shifted}
use Rattle.gf128.proofs.Places.{shifted_of-add}
use Rattle.ghash_tables.proofs.Multiples.{no_table, next-table}
use Rattle.ghash_tables.proofs.fill_tables.Goals as goal

pub loop-q-init : goal.loop-q-init
unfolding shifted_of
loop-q-init c = (next-table 0 _ _ _ _ (omega arith) (no_table _ _ c.put_reductions.ensures.reductions) refl c.put_multiples.ensures, refl)

pub loop-q-preserved : goal.loop-q-preserved
loop-q-preserved c =
    let q = c.loop-q.q in
    let inv = c.loop-q.invariant in
    let h = value_of c.from-v.result in
    let at : 32 * (q - 1) + 32 ≡ 32 * q = omega arith in
    let same : q + 1 - 1 ≡ q = omega arith in
    let v =
    c.times_x32-v.ensures inv.0.reductions ∙ ap (λ (x : ℕ). shifted x 32) inv.1 ∙ sym (shifted_of-add reduction h (32 * (q - 1)) 32)
    ∙ ap (shifted h) at in
    (next-table q _ _ _ _ (omega arith) inv.0 v c.put_multiples-in-loop-q.ensures, v ∙ ap (λ (x : ℕ). shifted h (32 * x)) (sym same))
