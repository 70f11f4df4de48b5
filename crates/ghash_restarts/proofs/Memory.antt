-- Whatever the bytes of the struct of a running hash are in memory, it is `Held`: what the theorems on parking ask of a state. `Is` is the
-- kit's relation between a value of a type and the machine values that stand for it.
-- Assumes nothing.
use Rattle.std.proofs.Common.{List}
use mir.Val.{Val}
use denote.Laws.{Is}
use denote.Struct.Laws as LL
use Rattle.gf128.proofs.Halves.{halves_lt}
use Rattle.ghash_block.specs.contracts.block.Block as B
use Rattle.ghash_block.proofs.block.Block.TheLaws as B'
use Rattle.ghash_state.specs.State.{view}
use Rattle.ghash_state.specs.declared.Running.{Running}
use Rattle.ghash_state.specs.contracts.Running as T
use Rattle.ghash_state.proofs.Running.TheLaws as T'
use Rattle.ghash_restarts.specs.RoundTrip.{Held}

pub held-in-memory : (s : Running) (vs : List Val) → Is T.the_row s vs → Held (view s)
held-in-memory s vs is =
    let fields = LL.owed T.the_type T'.the_laws s vs is in
    let halves = LL.owed B.the_type B'.the_laws s.y _ fields.0 in
    record {
      y = halves_lt 64 s.y.0 s.y.1 halves.0.1 halves.1.0.1;
      block = fields.1.0.1.0.1;
    }
