-- `put_text` puts the parts of the text one after the other. Assumes nothing.
use Rattle.std.proofs.Common.{Option, ap}
use Rattle.vector_listing.specs.declared.Third.{Third}
use Rattle.vector_listing.specs.Text.{third, text}
use Rattle.vector_listing.proofs.Puts.{puts-as, puts_then}
use Rattle.vector_listing.proofs.Cursor.put_text.Goals as goal

pub returns-clause-puts : goal.returns-clause-puts
unfolding text
returns-clause-puts c =
    let vs1 = c.args.i.fields.vs1 in
    puts_then c.put_mnemonic.ensures.puts
    (puts_then c.put_operand.ensures.puts
    (puts_then c.put_operand-2.ensures.puts
    (puts_then (puts-as (ap (λ (t : Option Third). third t vs1) c.third_of.ensures) c.put_third.ensures.puts)
    c.put_mask.ensures.puts)))
