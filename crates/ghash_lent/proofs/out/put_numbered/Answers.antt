-- `put_numbered` writes a block's bytes to an `out` of 16 bytes. Assumes nothing.
use Rattle.std.proofs.Common.{◌≡◌, refl, sym, ◌∙◌, length, arith}
use borrow.Author.Tests.{eq-eqb, le-leb}
use Rattle.gf128.specs.Bytes.{block_bytes}
use Rattle.ghash_block.specs.Block.{value_of}
use Rattle.octets.proofs.BigEndian.{length-be_bytes}
use Rattle.octets.proofs.Stores.{sets-whole}
use Rattle.ghash_lent.proofs.out.put_numbered.Goals as goal

pub returns : goal.returns
returns c =
    let out = c.args.out.now in
    let e : length out ≡ 16 = omega arith in
    let value = value_of c.args.block in
    let whole = sets-whole out (block_bytes value) (e ∙ sym (length-be_bytes 16 value)) in
    rw (eq-eqb (length out) 16 e) (refl, c.put_block.ensures ∙ rw (le-leb 16 (length out) (omega arith)) whole)
