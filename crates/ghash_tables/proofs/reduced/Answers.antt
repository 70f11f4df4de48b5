-- `reduced` is the reduction of 32 coefficients: a turn of the loop is one overflow of four. Assumes nothing.
use Rattle.std.proofs.Common.{◌≡◌, ℕ, ◌+◌, ◌-◌, ◌*◌, ◌%◌, ◌^◌, ◌<◌, get_or, refl, sym, ap, ap₂, ◌∙◌, arith, rules, div-one}
use native.Mathlib.Nat.{mod-one, zero-mod}
use lib.Pow.{mod-mod-pow}
use Rattle.gf128.specs.Field.{reduction, shifted_of, shifted}
use Rattle.ghash_tables.proofs.Multiples.{four-leave, overflow-ends, overflow-more}
use Rattle.ghash_tables.proofs.reduced.Goals as goal

-- what ends in 32 zeros ends in l of them
ends-sooner : (e k l : ℕ) → k + l ≡ 32 → e % 2 ^ 32 ≡ 0 → e % 2 ^ l ≡ 0
ends-sooner e k l few z =
    sym (mod-mod-pow e k l) ∙ ap (λ (x : ℕ). e % 2 ^ x % 2 ^ l) few ∙ ap (λ (x : ℕ). x % 2 ^ l) z ∙ zero-mod (2 ^ l)

pub loop-init : goal.loop-init
unfolding shifted_of
loop-init c = (sym (div-one _), λ reductions. (refl, sym (mod-one _)))

pub loop-preserved : goal.loop-preserved
loop-preserved c =
    let v = c.args.v in
    let i = c.loop.counter in
    let inv = c.loop.invariant in
    let next : 4 * i + 4 ≡ 4 * (i + 1) = omega arith in
    let zeros : 32 - 4 * i ≡ 32 - 4 * (i + 1) + 4 = omega arith in (
      four-leave v i inv.0 next,
      λ reductions.
          let n = c.loop.rest % 16 in
          let e = get_or c.args.t.now (128 + n) 0 in
          let high = c.loop.high in
          let l = 32 - 4 * (i + 1) in
          let er = (inv.1 reductions).1 in
          let zr : high % 2 ^ (l + 4) ≡ 0 = ap (λ (x : ℕ). high % 2 ^ x) (sym zeros) ∙ (inv.1 reductions).0 in
          let few : 4 * (i + 1) + l ≡ 32 = omega arith in
          let ln : n < 16 = search rules in (
            overflow-ends reduction v (4 * i) l 64 high e er zr (ends-sooner e (4 * (i + 1)) l few (reductions.zeros n ln)),
            overflow-more reduction v (4 * i) l 64 high e er zr (reductions.overflow n ln ∙ ap (λ (x : ℕ). shifted (x % 2 ^ 4) 4) inv.0)
                ∙ ap₂ (λ (x y : ℕ). shifted (v % 2 ^ x) y) next next,
          ),
    )
