-- `put_byte` sets a byte; past the end nothing changes. Assumes nothing.
use Rattle.std.proofs.Common.{sym}
use lib.Seq.{set_out}
use Rattle.octets_le.proofs.put_byte.Goals as goal

pub returns-else-at-s : goal.returns-else-at-s
returns-else-at-s c = sym (set_out c.args.s.now c.args.at c.args.b c.if-at-s.false)
