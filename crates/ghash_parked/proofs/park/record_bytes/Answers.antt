-- `record_bytes` gives a record's bytes: its fields, each written at its place over zeros.
-- Assumes nothing.
use Rattle.std.proofs.Common.{◌≡◌, length, rules, arith}
use Rattle.octets.proofs.LittleEndian.{write_le-sets}
use Rattle.ghash_state.specs.State.{view}
use Rattle.ghash_parked.specs.Layout.{counts4}
use Rattle.ghash_parked.proofs.Counts.{bytes-one}
use Rattle.ghash_parked.proofs.Fields.{written}
use Rattle.ghash_parked.proofs.park.record_bytes.Goals as goal

pub returns : goal.returns
returns c =
    let s = c.args.state in
    let full : length s.open_block ≡ 16 = search rules in
    rw (
      c.write_le-2.ensures,
      write_le-sets,
      c.write_le.ensures,
      write_le-sets,
      c.put.ensures,
      c.put_block.ensures,
      c.at_phase.ensures,
      c.at_count_c.ensures,
      c.from-n.ensures,
      c.from.ensures,
      c.from-2.ensures,
    )
    (rw (bytes-one s.phase (omega arith)) at (written counts4 (view s) full))
