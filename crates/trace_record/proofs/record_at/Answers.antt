-- `record_at` gives the record at a place: each field is what stands at its place.
-- Assumes nothing.
use Rattle.trace_record.specs.Record.{record_at}
use Rattle.trace_record.proofs.record_at.Goals as goal

pub returns : goal.returns
unfolding record_at
returns c =
    λ i. record {
      word = c.short_at.ensures i;
      sew = c.short_at-2.ensures i;
      lmul = c.short_at-3.ensures i;
      answer = c.short_at-4.ensures i;
      policy = c.short_at-5.ensures i;
      vl = c.short_at-6.ensures i;
      vstart = c.short_at-7.ensures i;
      scalar = c.number_at.ensures i;
    }
