-- `replay` goes through the records. The loop's invariant is what is left: to replay the records from i on, on the file as it stands, is to
-- replay all of them on the file at entry.
-- Assumes nothing.
use Rattle.std.proofs.Common.{◌≡◌}
use Rattle.trace_record.specs.Record.{records_from}
use Rattle.trace_replay.specs.Replay.{replay_from}
use Rattle.trace_replay.proofs.Fold.{left}
use Rattle.trace_replay.proofs.replay.Given as goal

abbrev pub invariant-loop-i : goal.invariant-loop-i
invariant-loop-i l = left l.vlen l.count l.trace l.i l.file ≡ replay_from l.vlen (records_from l.count l.trace 0) 0 l.initial.file
