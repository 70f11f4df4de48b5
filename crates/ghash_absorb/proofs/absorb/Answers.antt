-- `absorb` takes in a piece: up to the end of the open block, then from a block's start. Assumes nothing.
use Rattle.std.proofs.Common.{◌≡◌, ◌-◌, ◌%◌, length, sym, ap, ◌∙◌, arith, rules}
use Rattle.gf128.specs.Running.{pushed}
use Rattle.gf128.proofs.Parts.{pushed-mod, pushed-gap}
use Rattle.ghash_block.specs.Block.{value_of, key_of}
use Rattle.ghash_state.specs.State.{part_of, none_open}
use Rattle.ghash_absorb.proofs.absorb.Goals as goal

pub returns-then-s-gap : goal.returns-then-s-gap
returns-then-s-gap c = λ w.
    let a = c.args in
    c.put_run.ensures w ∙ pushed-mod (key_of a.key.now.key) a.s.now (a.n % 16) a.n (part_of a.p) (omega arith)

pub returns : goal.returns
returns c = λ w.
    let a = c.args in
    let h = key_of a.key.now.key in
    let q = c.put_run-filled.result in
    let n : length q.bytes ≡ 16 = search rules in
    let put = c.put_run-filled.ensures w ∙ ap (pushed h (a.n % 16) (part_of a.p)) c.split_at.ensures.front in
    c.push_from_start.ensures w
    ∙ ap (pushed h 0 (none_open (value_of q.y))) c.split_at.ensures.back
    ∙ sym (pushed-gap h a.n (part_of a.p) (part_of q) a.s.now ((16 - a.n % 16) % 16) c.requires (omega arith) (omega arith) n put)
