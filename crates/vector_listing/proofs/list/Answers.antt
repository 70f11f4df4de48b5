-- `list` puts the text of what `decode` gives. Assumes nothing.
use Rattle.std.proofs.Common.{◌≡◌, Some, sym, ap, ◌∙◌, rules}
use Rattle.refusal.specs.declared.Refusal.TheVariants.{NotAWord}
use Rattle.vector_word.specs.Word.{decode}
use Rattle.vector_listing.specs.Listing.{listed_into}
use Rattle.vector_listing.proofs.Answers.{listed_text, taken, registers}
use Rattle.vector_listing.proofs.list.Goals as goal

pub put_text-requires-clause-registers : goal.put_text-requires-clause-registers
put_text-requires-clause-registers c =
    registers c.args.word c.in_ok-i.i (sym c.decode.ensures ∙ taken c.decode.result NotAWord (sym c.ok_or.ensures.value ∙ c.in_ok-i.was))

pub returns-clause-text : goal.returns-clause-text
returns-clause-text c =
    let is : decode c.args.word ≡ Some c.in_ok-i.i = sym c.decode.ensures ∙ taken c.decode.result NotAWord (sym c.ok_or.ensures.value ∙ c.in_ok-i.was) in
    let text = listed_text c.args.text.now c.in_ok-i.i c.if-text-lt32.false c.put_text.ensures.puts ∙ ap (listed_into c.args.text.now) (sym is) in
    search rules ∙ text
