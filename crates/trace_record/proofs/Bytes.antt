-- A record has 24 bytes.
-- Assumes nothing.
use Rattle.std.proofs.Common.{◌≡◌, refl, length}
use Rattle.octets.specs.LittleEndian.{le_bytes}
use Rattle.trace_record.specs.declared.Record.{Record}
use Rattle.trace_record.specs.Record.{record_bytes}

pub length-record_bytes : (r : Record) → length (record_bytes r) ≡ 24
unfolding le_bytes record_bytes
length-record_bytes r = refl
