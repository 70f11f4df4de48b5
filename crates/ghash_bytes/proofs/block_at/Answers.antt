-- `block_at` meets its contract: a block is read as two halves, and is zero past the end. Assumes nothing.
use Rattle.std.proofs.Common.{ℕ, ◌+◌, ◌*◌, ◌^◌, sym, ap₂, ◌∙◌}
use Rattle.octets.proofs.BigEndian.{be_at-split, be_at-past}
use Rattle.ghash_bytes.proofs.block_at.Goals as goal

pub returns-then-s-at : goal.returns-then-s-at
returns-then-s-at c = sym (be_at-past c.args.s.now c.args.at 16 c.if-s-at.true)

pub returns : goal.returns
returns c =
    ap₂ (λ (p q : ℕ). p * 256 ^ 8 + q) c.read_be8.ensures c.read_be8-2.ensures ∙ sym (be_at-split c.args.s.now c.args.at 8 8)
