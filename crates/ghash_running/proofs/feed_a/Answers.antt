-- `feed_a` feeds a piece of A. Assumes nothing.
use Rattle.std.proofs.Common.{◌≡◌, sym, ap, ap₂, ◌∙◌, ℕ}
use Rattle.gf128.specs.Bytes.{block_at}
use Rattle.gf128.specs.Running.{Part, feed_a_refusal, pushed, fed_a}
use Rattle.gf128.proofs.Running.{first-a}
use Rattle.ghash_block.specs.Block.{key_of}
use Rattle.ghash_state.specs.State.{view, state_of}
use Rattle.ghash_running.proofs.Answers.{refused, taken, not_done, limit-a}
use Rattle.ghash_running.proofs.feed_a.Goals as goal

pub returns-in_err-check_call : goal.returns-in_err-check_call
returns-in_err-check_call c =
    let a = c.args in
    let key = a.key.now in
    let s = view a.state in
    let e = c.in_err-check_call.field-0.0 in
    let n = c.in_err-check_call.ensures in
    refused (feed_a_refusal key s a.piece.now) _ a.state c.from_residual.result e (first-a key s a.piece.now (λ z. not_done e (n ∙ z)) ∙ sym n) c.from_residual.ensures.1

pub returns-in_err-a_count : goal.returns-in_err-a_count
returns-in_err-a_count c =
    let a = c.args in
    let key = a.key.now in
    let s = view a.state in
    let e = c.in_err-a_count.field-0.0 in
    let n = limit-a key s a.piece.now (sym c.in_ok-check_call.ensures) c.if-state-ne0.false in
    refused (feed_a_refusal key s a.piece.now) _ a.state c.from_residual-in_err-a_count.result e (n ∙ sym c.in_err-a_count.ensures.refused) c.from_residual-in_err-a_count.ensures.1

pub returns : goal.returns
unfolding fed_a
returns c =
    let a = c.args in
    let key = a.key.now in
    let piece = a.piece.now in
    let s = view a.state in
    let n = limit-a key s piece (sym c.in_ok-check_call.ensures) c.if-state-ne0.false in
    let h : key_of c.new-prepared.result.key ≡ block_at key 0 = ap key_of c.new-prepared.ensures.key_kept ∙ c.key_at_start.ensures in
    let p = c.absorb-part.ensures c.new-prepared.ensures.prepared ∙ ap₂ (λ (k : ℕ) (p : Part). pushed k s.count_a p piece) h c.from.ensures in
    taken (feed_a_refusal key s piece) (fed_a (block_at key 0) s piece) a.state _ (n ∙ sym c.in_ok-a_count.ensures.refused)
    (c.of.ensures.0 ∙ ap₂ (λ (p : Part) (count_a : ℕ). state_of p count_a s.count_c 0) p c.in_ok-a_count.ensures.counted)
    c.of.ensures.1
