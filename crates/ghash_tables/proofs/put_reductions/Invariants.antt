-- `put_reductions` copies the sixteen reductions, whose rule is one test over the whole table.
-- The loop's invariant: the rule holds of the constants, and the places passed hold them; what stands before the reductions stays.
-- Assumes nothing.
use Rattle.std.proofs.Common.{◌≡◌, ℕ, ◌+◌, ◌<◌, get_or}
use Rattle.ghash_tables.specs.Table.{ReductionsAt}
use Rattle.ghash_tables.proofs.put_reductions.Given as goal

abbrev pub invariant-loop-n : goal.invariant-loop-n
invariant-loop-n l =
    ReductionsAt 0 l.r × ((k : ℕ) → k < l.n → get_or l.t (128 + k) 0 ≡ get_or l.r (0 + k) 0)
    × ((k : ℕ) → k < 128 → get_or l.t k 0 ≡ get_or l.initial.t k 0)
