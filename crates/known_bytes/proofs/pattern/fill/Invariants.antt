-- `fill` puts the pattern. The loop's invariant: it stands up to the loop's place, and b is the number there. Assumes nothing.
use Rattle.std.proofs.Common.{◌≡◌, ℕ, ◌<◌, get_or}
use Rattle.known_bytes.specs.Pattern.{number_at, byte_at}
use Rattle.known_bytes.proofs.pattern.fill.Given as goal

abbrev pub invariant-loop-byte : goal.invariant-loop-byte
invariant-loop-byte l = (l.b ≡ number_at l.p l.byte-index) × ((k : ℕ) → k < l.byte-index → get_or l.s k 0 ≡ byte_at l.p k)
