-- `write_record` refuses, or writes the record over the whole slice.
-- Assumes nothing.
use Rattle.std.proofs.Common.{refl, sym, ◌∙◌, length, eq-eqb}
use Rattle.octets.proofs.Stores.{sets-whole}
use Rattle.trace_record.specs.Record.{record_bytes}
use Rattle.trace_record.proofs.Bytes.{length-record_bytes}
use Rattle.trace_record.proofs.write_record.Goals as goal

pub returns : goal.returns
returns c =
    let a = c.args in
    let room = c.if-s-ne-RECORD_BYTES.false in
    rw (sym c.too_large.ensures ∙ c.if-too_large.false, eq-eqb (length a.s.now) 24 room)
    (refl, c.put_record.ensures ∙ sets-whole a.s.now (record_bytes a.r) (room ∙ sym (length-record_bytes a.r)))
