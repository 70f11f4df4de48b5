-- `push_from_start` hashes whole blocks as they stand, and puts the rest. Assumes nothing.
use Rattle.std.proofs.Common.{ℕ, ◌*◌, ◌/◌, List, length, sym, ap, ap₂, ◌∙◌, arith}
use Rattle.gf128.specs.Hash.{blocks_of, over}
use Rattle.gf128.specs.Running.{Part, pushed}
use Rattle.gf128.proofs.Parts.{pushed-cut}
use Rattle.ghash_block.specs.Block.{value_of, key_of}
use Rattle.ghash_state.specs.State.{none_open}
use Rattle.ghash_absorb.proofs.push_from_start.Goals as goal

pub returns : goal.returns
returns c = λ w.
    let h = key_of c.args.key.now.key in
    let y = value_of c.args.y in
    let s = c.args.s.now in
    c.put_run.ensures w
    ∙ ap₂ (λ (p : Part) (l : List ℕ). pushed h 0 p l)
    (c.none_open-part.ensures ∙ ap none_open (c.over_blocks.ensures w ∙ ap (λ (l : List ℕ). over h y (blocks_of l)) c.split_at.ensures.front)) c.split_at.ensures.back
    ∙ sym (pushed-cut h y s (length s / 16 * 16) (omega arith) (omega arith))
