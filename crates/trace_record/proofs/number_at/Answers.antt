-- `number_at` gives a number of the record: past the end of the trace all bytes count as zeros.
-- Assumes nothing.
use Rattle.std.proofs.Common.{◌+◌, sym, arith}
use Rattle.octets.proofs.LittleEndian.{read_past}
use Rattle.trace_record.proofs.number_at.Goals as goal

pub returns-then-trace-at : goal.returns-then-trace-at
returns-then-trace-at c = sym (read_past c.args.trace.now (c.args.at + c.args.place) c.args.n (omega arith))
