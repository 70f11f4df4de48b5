-- `put_operand` puts what leads the number, and then the number. Assumes nothing.
use Rattle.vector_listing.proofs.Puts.{puts_then}
use Rattle.vector_listing.proofs.Cursor.put_operand.Goals as goal

pub returns-clause-puts : goal.returns-clause-puts
returns-clause-puts c = puts_then c.put.ensures.puts c.put_decimal.ensures.puts
