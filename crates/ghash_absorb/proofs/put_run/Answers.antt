-- `put_run` takes in a run of bytes that fits into the open block. Assumes nothing.
use Rattle.std.proofs.Common.{ℕ, List, refl, sym, ap, ◌∙◌, arith}
use Rattle.gf128.specs.Bytes.{block_at}
use Rattle.gf128.specs.Hash.{next}
use Rattle.gf128.proofs.Parts.{part_same}
use Rattle.ghash_block.specs.Block.{key_of}
use Rattle.ghash_state.specs.State.{part_of}
use Rattle.ghash_absorb.proofs.Runs.{pushed-short, pushed-filled}
use Rattle.ghash_absorb.proofs.put_run.Goals as goal

pub returns-then-end-lt16 : goal.returns-then-end-lt16
returns-then-end-lt16 c = λ w.
    let a = c.args in
    part_same refl c.with_bytes-bytes.ensures
    ∙ sym (pushed-short (key_of a.key.now.key) a.place (part_of a.p) a.s.now c.if-end-lt16.true)

pub returns : goal.returns
returns c = λ w.
    let a = c.args in
    let h = key_of a.key.now.key in
    let p = part_of a.p in
    c.none_open.ensures
    ∙ part_same (c.next.ensures w ∙ ap (next h p.y) (c.block_at.ensures ∙ ap (λ (s : List ℕ). block_at s 0) c.with_bytes-bytes.ensures)) refl
    ∙ sym (pushed-filled h a.place p a.s.now (omega arith) (omega arith))
