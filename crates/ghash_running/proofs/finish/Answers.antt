-- `finish` ends the message. Assumes nothing.
use Rattle.std.proofs.Common.{◌≡◌, sym, ap, ap₂, ◌∙◌, ℕ, cond, eqb}
use Rattle.gf128.specs.Bytes.{block_at}
use Rattle.gf128.specs.Hash.{next, length_block}
use Rattle.gf128.specs.Running.{Part, finish_refusal, closed, finished}
use Rattle.ghash_block.specs.Block.{key_of}
use Rattle.ghash_state.specs.State.{view, state_of, held, none_open}
use Rattle.ghash_running.proofs.Answers.{taken, hash}
use Rattle.ghash_running.proofs.finish.Goals as goal

pub returns : goal.returns
unfolding finished
returns c =
    let a = c.args in
    let key = a.key.now in
    let s = view a.state in
    let n = sym c.in_ok-check_call.ensures in
    let w = c.new-prepared.ensures.prepared in
    let k = c.new-prepared.result.key in
    let h : key_of k ≡ block_at key 0 = ap key_of c.new-prepared.ensures.key_kept ∙ c.key_at_start.ensures in
    let p = c.close-closed.ensures w ∙ ap₂ (closed (key_of k)) c.open_count.ensures c.from.ensures in
    let y = c.next-hash.ensures w
    ∙ ap₂ (next (key_of k)) (ap (λ (p : Part). p.y) p) c.length_block-lengths.ensures
    ∙ ap (λ (k : ℕ). next k (closed k (cond (eqb s.phase 0) s.count_a s.count_c) (held s)).y (length_block s.count_a s.count_c)) h in
    let done = finished (block_at key 0) s in (
      taken (finish_refusal key s) done a.state _ n
          (c.of-state.ensures.0 ∙ ap (λ (p : Part). state_of p s.count_a s.count_c 2) (c.none_open.ensures ∙ ap none_open y)) c.of-state.ensures.1,
      hash (finish_refusal key s) done.y n y,
    )
