-- `put_block` meets its contract: a block is written as two halves, and only where it fits. Assumes nothing.
use Rattle.std.proofs.Common.{ℕ, ◌+◌, List, length, ap, ◌∙◌, arith}
use borrow.Author.Tests.{le-leb}
use Rattle.std.proofs.lemmas.List.Edits.{sets}
use Rattle.octets.specs.BigEndian.{be_bytes}
use Rattle.octets.proofs.BigEndian.{sets-join}
use Rattle.ghash_bytes.proofs.put_block.Goals as goal

pub returns : goal.returns
returns c =
    let s = c.args.s.now in
    let at = c.args.at in
    let b = c.args.b in
    rw (le-leb (at + 16) (length s) (omega arith))
    (c.write_be8-2.ensures
    ∙ ap (λ (l : List ℕ). sets l (at + 8) (be_bytes 8 b.1)) c.write_be8.ensures
    ∙ sets-join s at 8 8 b.0 b.1 (omega arith))
