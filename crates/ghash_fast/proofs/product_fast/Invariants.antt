-- `product_fast` is the product. The loop's invariant: after i rounds the chain has done 4 · i coefficients of each quarter,
-- from the last on, the quarters are without them, and the entries of the next four are read. Assumes nothing.
use Rattle.std.proofs.Common.{◌≡◌, ℕ, ◌*◌, ◌/◌, ◌%◌, ◌^◌}
use Rattle.gf128.specs.Field.{reduction, shifted}
use Rattle.gf128.proofs.Chain.{chain}
use Rattle.ghash_block.specs.Block.{value_of}
use Rattle.ghash_tables.specs.Table.{TableOf, entries_of}
use Rattle.ghash_fast.proofs.product_fast.Given as goal

-- the chain of the four quarters, with the keys of the four tables
abbrev pub chain_of : ℕ → ℕ → ℕ → ℕ → ℕ → ℕ → ℕ
chain_of h = chain 127 reduction (shifted h 0) (shifted h 32) (shifted h 64) (shifted h 96)

abbrev pub invariant-loop : goal.invariant-loop
invariant-loop l =
    (l.a ≡ l.initial.a / 2 ^ (4 * l.counter)) × (l.b ≡ l.initial.b / 2 ^ (4 * l.counter)) × (l.c ≡ l.initial.c / 2 ^ (4 * l.counter)) × (l.d ≡ l.initial.d / 2 ^ (4 * l.counter))
    × ((h : ℕ) → TableOf h l.t → value_of l.z ≡ chain_of h l.initial.a l.initial.b l.initial.c l.initial.d (4 * l.counter))
    × ((h : ℕ) → TableOf h l.t → value_of l.e ≡ entries_of h (l.a % 2 ^ 4) (l.b % 2 ^ 4) (l.c % 2 ^ 4) (l.d % 2 ^ 4))
