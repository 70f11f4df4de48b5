-- What finishing a lent running hash into `out` promises: the number n, the running hash t and `out` afterwards. Feeding
-- promises what ghash_running's calls do.
-- Assumes nothing.
use Rattle.std.specs.Prelude.{ℕ, ◌≡◌, List}
use Rattle.gf128.specs.Entries.{finish_number, finish_state, finish_out}
use Rattle.ghash_state.specs.State.{view}
use Rattle.ghash_running.specs.Answers.{Updates}
use Rattle.ghash_state.specs.declared.Running.{Running}

abbrev pub FinishesInto : List ℕ → Running → List ℕ → ℕ → Running → List ℕ → Type 0
FinishesInto key s out n t out' =
    Updates (finish_number key (view s) out) (finish_state key (view s) out) s n t × (out' ≡ finish_out key (view s) out)
