-- What the calls on a running hash promise: document 01's number, and the running hash afterwards.
-- Assumes nothing.
use Rattle.std.specs.Prelude.{◌≡◌, List, ℕ, Result, Ok, Err}
use Rattle.gf128.specs.Running.{State, feed_a_refusal, feed_c_refusal, finish_refusal, after_feed_a, after_feed_c, after_finish, finish_block}
use Rattle.ghash_block.specs.Block.{value_of}
use Rattle.ghash_block.specs.declared.block.Block.{Block}
use Rattle.ghash_state.specs.State.{view, spare_zeros}
use Rattle.ghash_state.specs.declared.Running.{Running}
use Rattle.refusal.specs.declared.Refusal.{Refusal}
use Rattle.ghash_running.specs.declared.Finished.{Finished}

-- a call answers the number n and leaves the running hash t: a refusal the very one that came in, a call that is done one
-- whose spare bytes are zeros
pub record Updates (number : ℕ) (after : State) (before : Running) (n : ℕ) (t : Running) : Type 0 where
  pub answer : n ≡ number
  pub state : view t ≡ after
  pub kept : (number ≡ 0 → ⊥) → t ≡ before
  pub spare : number ≡ 0 → t.spare ≡ spare_zeros

-- a piece of A
abbrev pub FeedsA : List ℕ → Running → List ℕ → ℕ → Running → Type 0
FeedsA key s piece n t = Updates (feed_a_refusal key (view s) piece) (after_feed_a key (view s) piece) s n t

-- a piece of C
abbrev pub FeedsC : List ℕ → Running → List ℕ → ℕ → Running → Type 0
FeedsC key s piece n t = Updates (feed_c_refusal key (view s) piece) (after_feed_c key (view s) piece) s n t

-- the end, with the hash b
abbrev pub Finishes : List ℕ → Running → ℕ → Running → Block → Type 0
Finishes key s n t b =
    Updates (finish_refusal key (view s)) (after_finish key (view s)) s n t × (value_of b ≡ finish_block key (view s))

-- the running hash after a piece: the very one that came in where the piece is refused
abbrev pub state_after : Running → Result Running Refusal → Running
state_after before (Ok after) = after
state_after before (Err refusal) = before

-- the same after the end
abbrev pub finished_state : Running → Result Finished Refusal → Running
finished_state before (Ok finished) = finished.state
finished_state before (Err refusal) = before

-- the hash; the zero block where the end is refused
abbrev pub finished_hash : Result Finished Refusal → Block
finished_hash (Ok finished) = finished.hash
finished_hash (Err refusal) = record { 0 = 0; 1 = 0 }
