-- `product_fast` is the product. The loop's invariant: after i rounds the chain has done 4 · i coefficients of each quarter,
-- from the last on, the quarters are without them, and the entries of the next four are read. Assumes nothing.
use Rattle.std.proofs.Common.{◌≡◌, refl, sym, ap, ap₂, ◌∙◌, ℕ, ◌+◌, ◌*◌, ◌/◌, ◌%◌, ◌^◌, ◌≤◌, ◌<◌, div-one, mod-lt, arith, bit_xor, pow_pos, shr_lt, rules}
use lib.Pow.{split}
use Rattle.gf128.specs.Field.{reduction, shifted_of, shifted, product}
use Rattle.gf128.proofs.Chain.{chain-start, chain-step, chain-end}
use Rattle.ghash_block.specs.Block.{value_of}
use Rattle.ghash_tables.specs.Table.{nibble, entries_of}
use Rattle.ghash_tables.proofs.Multiples.{four-leave}
use Rattle.ghash_fast.proofs.product_fast.Invariants.{chain_of}
use Rattle.ghash_fast.proofs.product_fast.Goals as goal

-- one step of the chain
module _ (h a₀ b₀ c₀ d₀ a b c d z e i : ℕ) (ea : a ≡ a₀ / 2 ^ (4 * i)) (eb : b ≡ b₀ / 2 ^ (4 * i)) (ec : c ≡ c₀ / 2 ^ (4 * i)) (ed : d ≡ d₀ / 2 ^ (4 * i))
    (ez : z ≡ chain_of h a₀ b₀ c₀ d₀ (4 * i)) (ee : e ≡ entries_of h (a % 2 ^ 4) (b % 2 ^ 4) (c % 2 ^ 4) (d % 2 ^ 4)) (l : 4 * i + 4 ≤ 128) where
  stepped : bit_xor (shifted z 4) e ≡ chain_of h a₀ b₀ c₀ d₀ (4 * i + 4)
  stepped =
      ap₂ (λ (x y : ℕ). bit_xor (shifted x 4) y) ez
      (ee
      ∙ ap₂ bit_xor
      (ap₂ (λ (x y : ℕ). bit_xor (product (nibble (x % 2 ^ 4)) (shifted h 0)) (product (nibble (y % 2 ^ 4)) (shifted h 32))) ea eb)
      (ap₂ (λ (x y : ℕ). bit_xor (product (nibble (x % 2 ^ 4)) (shifted h 64)) (product (nibble (y % 2 ^ 4)) (shifted h 96))) ec ed))
      ∙ sym (chain-step 127 reduction (shifted h 0) (shifted h 32) (shifted h 64) (shifted h 96) a₀ b₀ c₀ d₀ (4 * i) l)

-- all the coefficients are done
ended : (h high low : ℕ) → high < 2 ^ 64 → low < 2 ^ 64
    → chain_of h (high / 2 ^ 32) (high % 2 ^ 32) (low / 2 ^ 32) (low % 2 ^ 32) 32 ≡ product (high * 2 ^ 64 + low) h
unfolding shifted_of
ended h high low lh ll =
    chain-end 127 reduction h 32 (high / 2 ^ 32) (high % 2 ^ 32) (low / 2 ^ 32) (low % 2 ^ 32) refl
    (shr_lt 32 32 lh) (mod-lt high (pow_pos 32)) (shr_lt 32 32 ll) (mod-lt low (pow_pos 32))
    ∙ ap₂ (λ (x y : ℕ). product (x * 2 ^ 64 + y) h) (split high 32) (split low 32)

pub loop-init : goal.loop-init
loop-init c = (
  sym (div-one _),
  sym (div-one _),
  sym (div-one _),
  sym (div-one _),
  λ h table. sym (chain-start 127 reduction (shifted h 0) (shifted h 32) (shifted h 64) (shifted h 96) _ _ _ _),
  c.entries-e.ensures,
)

pub loop-preserved : goal.loop-preserved
loop-preserved c =
    let i = c.loop.counter in
    let inv = c.loop.invariant in
    let next : 4 * i + 4 ≡ 4 * (i + 1) = omega arith in (
      four-leave _ i inv.0 next,
      four-leave _ i inv.1 next,
      four-leave _ i inv.2 next,
      four-leave _ i inv.3 next,
      λ h table.
          c.xor-z.ensures
          ∙ ap (λ (x : ℕ). bit_xor x (value_of c.loop.e)) (c.times_x4.ensures table.whole.reductions)
          ∙ stepped h _ _ _ _ _ _ _ _ _ _ i inv.0 inv.1 inv.2 inv.3 (inv.4 h table) (inv.5 h table) (omega arith)
          ∙ ap (chain_of h _ _ _ _) next,
      c.entries-e-in-loop.ensures,
    )

pub returns : goal.returns
returns c h table =
    let i = c.loop.counter in
    let inv = c.loop.invariant in
    let u = c.args.u in
    let done : 4 * i + 4 ≡ 32 = omega arith in
    c.xor.ensures
    ∙ ap (λ (x : ℕ). bit_xor x (value_of c.loop.e)) (c.times_x4-2.ensures table.whole.reductions)
    ∙ stepped h _ _ _ _ _ _ _ _ _ _ i inv.0 inv.1 inv.2 inv.3 (inv.4 h table) (inv.5 h table) (omega arith)
    ∙ ap (chain_of h _ _ _ _) done
    ∙ ended h u.0 u.1 (search rules) (search rules)
