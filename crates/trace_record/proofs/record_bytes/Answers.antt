-- `record_bytes` gives a record's bytes: its fields, each written at its place over zeros.
-- Assumes nothing.
use Rattle.std.proofs.Common.{refl}
use Rattle.octets.specs.LittleEndian.{write_le, le_bytes}
use Rattle.trace_record.specs.Record.{record_bytes}
use Rattle.trace_record.proofs.record_bytes.Goals as goal

pub returns : goal.returns
unfolding write_le le_bytes record_bytes
returns c =
    rw (
      c.write_le-8.ensures,
      c.write_le-7.ensures,
      c.write_le-6.ensures,
      c.write_le-5.ensures,
      c.write_le-4.ensures,
      c.write_le-3.ensures,
      c.write_le-2.ensures,
      c.write_le.ensures,
    )
    refl
