-- `feed_c` feeds a piece of C. Assumes nothing.
use Rattle.std.proofs.Common.{◌≡◌, sym, ap, ap₂, ◌∙◌, ℕ}
use Rattle.gf128.specs.Bytes.{block_at}
use Rattle.gf128.specs.Running.{Part, feed_c_refusal, pushed, started_c, fed_c}
use Rattle.gf128.proofs.Running.{started-zeros, open-call, first-c}
use Rattle.ghash_block.specs.Block.{key_of}
use Rattle.ghash_state.specs.State.{view, state_of}
use Rattle.ghash_running.proofs.Answers.{refused, taken, not_done, limit-c}
use Rattle.ghash_running.proofs.feed_c.Goals as goal

pub returns-in_err-check_call : goal.returns-in_err-check_call
returns-in_err-check_call c =
    let a = c.args in
    let key = a.key.now in
    let s = view a.state in
    let e = c.in_err-check_call.field-0.0 in
    let n = c.in_err-check_call.ensures in
    refused (feed_c_refusal key s a.piece.now) _ a.state c.from_residual.result e (first-c key s a.piece.now (λ z. not_done e (n ∙ z)) ∙ sym n) c.from_residual.ensures.1

pub returns-in_err-c_count : goal.returns-in_err-c_count
returns-in_err-c_count c =
    let a = c.args in
    let key = a.key.now in
    let s = view a.state in
    let e = c.in_err-c_count.field-0.0 in
    let n = limit-c key s a.piece.now (sym c.in_ok-check_call.ensures) in
    refused (feed_c_refusal key s a.piece.now) _ a.state c.from_residual-in_err-c_count.result e (n ∙ sym c.in_err-c_count.ensures.refused) c.from_residual-in_err-c_count.ensures.1

pub absorb-part-requires : goal.absorb-part-requires
absorb-part-requires c =
    let s = view c.args.state in
    let o = open-call c.args.key.now s (sym c.in_ok-check_call.ensures) in
    rw (ap (λ (p : Part). p.block) (c.started_c.ensures c.new-prepared.ensures.prepared)) (started-zeros (key_of c.new-prepared.result.key) s o.well o.unfinished)

pub returns : goal.returns
unfolding fed_c
returns c =
    let a = c.args in
    let key = a.key.now in
    let piece = a.piece.now in
    let s = view a.state in
    let n = limit-c key s piece (sym c.in_ok-check_call.ensures) in
    let h : key_of c.new-prepared.result.key ≡ block_at key 0 = ap key_of c.new-prepared.ensures.key_kept ∙ c.key_at_start.ensures in
    let w = c.new-prepared.ensures.prepared in
    let p = c.absorb-part.ensures w
    ∙ ap (λ (p : Part). pushed (key_of c.new-prepared.result.key) s.count_c p piece) (c.started_c.ensures w)
    ∙ ap (λ (k : ℕ). pushed k s.count_c (started_c k s) piece) h in
    taken (feed_c_refusal key s piece) (fed_c (block_at key 0) s piece) a.state _ (n ∙ sym c.in_ok-c_count.ensures.refused)
    (c.of.ensures.0 ∙ ap₂ (λ (p : Part) (count_c : ℕ). state_of p s.count_a count_c 1) p c.in_ok-c_count.ensures.counted)
    c.of.ensures.1
