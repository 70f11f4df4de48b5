-- `next` gives the first of the records that are left. Assumes nothing.
use Rattle.std.proofs.Common.{◌≡◌, ℕ, List, Option, Bor, ap, rules}
use Rattle.std.specs.Iterator.{YieldsFirst}
use Rattle.trace_record.specs.declared.Record.{Record}
use Rattle.trace_reader.specs.declared.Reader.{Reader}
use Rattle.trace_reader.specs.Reader.{next_at, place_after, records_left}
use Rattle.trace_reader.proofs.Left.{turn, progress}
use Rattle.trace_reader.proofs.ReaderIterator.next.Goals as goal

-- the call of `next_record`, from the reader s to the reader t
called : (s t : Reader) (r : Option Record) → (r ≡ next_at s.trace.now s.at) × (t.trace ≡ s.trace) × (t.at ≡ place_after s.trace.now s.at)
    → YieldsFirst (λ (p : Reader). records_left p.trace.now p.at) s r t
called s t r told = turn s.trace.now t.trace.now s.at t.at r told.0 (ap (λ (b : Bor (List ℕ)). b.now) told.1) told.2

pub returns-clause-steps : goal.returns-clause-steps
returns-clause-steps c = called c.args.self.now c.next_record.new.r c.next_record.result c.next_record.ensures

pub returns-clause-goes : goal.returns-clause-goes
returns-clause-goes c =
    let s = c.args.self.now in
    let t = c.next_record.new.r in
    progress (λ (p : Reader). records_left p.trace.now p.at) _ (λ _. search rules) s t c.next_record.result (called s t c.next_record.result c.next_record.ensures)
