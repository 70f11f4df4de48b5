-- `state_at` gives the fields of a record, each from its place; a count of at most 4 bytes is under 2^32.
-- Assumes nothing.
use Rattle.std.proofs.Common.{◌∙◌, ap, ap₂, refl, sym, get_or, arith}
use Rattle.octets.specs.LittleEndian.{read_le}
use Rattle.gf128.specs.Running.{Part}
use Rattle.ghash_parked.specs.Layout.{at_phase}
use Rattle.ghash_parked.specs.Record.{state_at}
use Rattle.ghash_parked.proofs.Counts.{read-lt-at, read-one}
use Rattle.ghash_parked.proofs.park.state_at.Goals as goal

pub overflow_cast-a_count : goal.overflow_cast-a_count
overflow_cast-a_count c =
    omega (arith, read-lt-at c.args.bytes.now (λ i. (c.type_inv.bytes i).fits) 32 c.from-n.result 4 (omega arith), c.read_le-a_count.ensures)

pub overflow_cast-c_count : goal.overflow_cast-c_count
overflow_cast-c_count c =
    omega (arith, read-lt-at c.args.bytes.now (λ i. (c.type_inv.bytes i).fits) c.at_count_c.result c.from-n.result 4 (omega arith), c.read_le-c_count.ensures)

pub returns : goal.returns
unfolding state_at
returns c =
    let bytes = c.args.bytes.now in (
      c.of.ensures.0 ∙ (λ i. record {
        y = (ap (λ (p : Part). p.y) c.none_open-part.ensures ∙ c.block_at.ensures) i;
        block = c.copy_from_slice.ensures.after i;
        count_a = (c.read_le-a_count.ensures ∙ ap₂ (read_le bytes) refl c.from-n.ensures) i;
        count_c = (c.read_le-c_count.ensures ∙ ap₂ (read_le bytes) c.at_count_c.ensures c.from-n.ensures) i;
        phase = (ap (λ at. get_or bytes at 0) c.at_phase.ensures ∙ sym (read-one bytes (at_phase c.args.l))) i;
      }),
      c.of.ensures.1,
    )
