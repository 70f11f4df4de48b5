-- The examples hold (`examples`): one test of an example, computed over the table, and one law that turns the test into what the example
-- says. Assumes nothing.
use Rattle.std.proofs.Common.{Bool, ◌&&◌, List, [], ◌∷◌, refl, ℕ, T, eqb, eqb→eq, length}
use Rattle.octets.specs.BigEndian.{be_bytes}
use Rattle.octets.specs.LittleEndian.{read_le, write_le, le_bytes}
use Rattle.gf128.proofs.Tests.{and_left, and_right}
use Rattle.vector_word.specs.Word.{decode}
use Rattle.vector_refusal.specs.Refusal.{refusal_of, refusal_of_known}
use Rattle.vector_product.specs.Clmul.{clmul, clmul64}
use Rattle.vector_element.specs.Element.{mask_bit}
use Rattle.vector_element.specs.Steps.{steps}
use Rattle.vector_clmul.specs.Carryless.{carryless_result, carryless_step, carryless}
use Rattle.vector_fill.specs.Fill.{ones_between, mask_step, mask_filled, tail_filled, filled}
use Rattle.vector_execute.specs.Execute.{executed}
use Rattle.trace_record.specs.Record.{record_at, records_from, record_bytes, write_number, written_into}
use Rattle.trace_policy.specs.Policy.{policy_of}
use Rattle.trace_reader.specs.Reader.{next_at, place_after}
use Rattle.trace_form.specs.Form.{policies_from, well_formed}
use Rattle.trace_replay.specs.Replay.{Replayed, replay_from, replayed, number_of, index_of}
use Rattle.theorems_examples.specs.Examples.{file}
use Rattle.theorems_examples.proofs.Marked.{same, same_at}
use Rattle.theorems_examples.proofs.Examples.{same-list}
use Rattle.trace_examples.specs.Examples.{Example, writes, policies, gives, replays, numbered, given_bytes, table, Holds, ExamplesHold}
use Rattle.theorems_examples.proofs.Rows.{all_right, all-show}

-- a replay's number and index in a row
abbrev numbers_of : Replayed → List ℕ
numbers_of r = number_of r ∷ index_of r ∷ []

right : Example → Bool
right (writes before sew lmul answer policy number after) =
    eqb (write_number (length before) (numbered sew lmul answer policy)) number && same (written_into before (numbered sew lmul answer policy)) after
right (policies vta vma policy) = eqb (policy_of vta vma) policy
right (gives trace at given place) = same (given_bytes (next_at trace at)) given && eqb (place_after trace at) place
right (replays vlen before trace number index after) =
    same (numbers_of (replayed vlen before trace).answer) (number ∷ index ∷ []) && same (replayed vlen before trace).file after

shows : (e : Example) → T (right e) → Holds e
unfolding right
shows (writes before sew lmul answer policy number after) t =
    let r = numbered sew lmul answer policy in
    let a = eqb (write_number (length before) r) number in
    let b = same (written_into before r) after in
    (eqb→eq (write_number (length before) r) number (and_left a b t), same-list (written_into before r) after (and_right a b t))
shows (policies vta vma policy) t = eqb→eq (policy_of vta vma) policy t
shows (gives trace at given place) t =
    let a = same (given_bytes (next_at trace at)) given in
    let b = eqb (place_after trace at) place in
    (same-list (given_bytes (next_at trace at)) given (and_left a b t), eqb→eq (place_after trace at) place (and_right a b t))
shows (replays vlen before trace number index after) t =
    let o = replayed vlen before trace in
    let a = same (numbers_of o.answer) (number ∷ index ∷ []) in
    let b = same o.file after in
    let e = same_at (numbers_of o.answer) (number ∷ index ∷ []) (and_left a b t) in
    (e 0, e 1, same-list o.file after (and_right a b t))

pub examples : ExamplesHold
unfolding table all_right right same file decode refusal_of refusal_of_known be_bytes read_le write_le le_bytes steps clmul clmul64 mask_bit carryless_result carryless_step carryless ones_between mask_step mask_filled tail_filled filled executed record_at records_from record_bytes policies_from well_formed replay_from replayed
examples = record { rows = refl; all = all-show Holds right shows table tt }
