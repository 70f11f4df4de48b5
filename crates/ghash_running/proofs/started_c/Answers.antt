-- `started_c`: A ends where the first C comes. Assumes nothing.
use Rattle.std.proofs.Common.{ap, ◌∙◌}
use borrow.Author.Tests.{eq-eqb, ne_eqb}
use Rattle.gf128.specs.Running.{closed, started_c}
use Rattle.ghash_block.specs.Block.{key_of}
use Rattle.ghash_running.proofs.started_c.Goals as goal

pub returns-then-state-eq0 : goal.returns-then-state-eq0
unfolding started_c
returns-then-state-eq0 c = λ w.
    rw (eq-eqb c.args.state.phase 0 c.if-state-eq0.true)
    (c.close.ensures w ∙ ap (closed (key_of c.args.key.now.key) c.args.state.a_count) c.from-part.ensures)

pub returns-else-state-eq0 : goal.returns-else-state-eq0
unfolding started_c
returns-else-state-eq0 c = λ w. rw (ne_eqb c.args.state.phase 0 c.if-state-eq0.false) c.from-part.ensures
