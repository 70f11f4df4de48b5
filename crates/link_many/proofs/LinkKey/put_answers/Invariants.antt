-- The loop's invariant: the links before i are answered. Assumes nothing.
use Rattle.std.proofs.Common.{◌≡◌, ℕ, ◌*◌, ◌<◌, get_or}
use Rattle.ghash_block.specs.Block.{key_of}
use Rattle.link_many.specs.Links.{answer, record_at}
use Rattle.link_many.proofs.LinkKey.put_answers.Given as goal

abbrev pub invariant-loop-i : goal.invariant-loop-i
invariant-loop-i l = (k : ℕ) → k < l.i → get_or l.results k 0 ≡ answer (key_of l.self.key) (record_at l.records (32 * k))
