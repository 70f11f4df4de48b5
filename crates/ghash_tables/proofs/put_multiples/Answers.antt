-- `put_multiples` puts the sixteen multiples, four at a time: 8, 4, 2 and 1 are the key times x, no to three times, and the others are sums.
-- Assumes nothing.
use Rattle.std.proofs.Common.{arith}
use Rattle.ghash_tables.proofs.Multiples.{sixteen-put}
use Rattle.ghash_tables.proofs.put_multiples.Goals as goal

pub returns : goal.returns
returns c =
    sixteen-put c.args.h c.times_x-h4.result c.times_x-h2.result c.times_x-h1.result c.xor.result
    (omega (arith, c.well_formed)) (omega (arith, c.times_x-h4.type_inv)) (omega (arith, c.times_x-h2.type_inv)) (omega (arith, c.times_x-h1.type_inv))
    (omega (arith, c.xor.type_inv))
    c.times_x-h4.ensures c.times_x-h2.ensures c.times_x-h1.ensures c.xor.ensures
    c.args.t.now c.put_four.new.t c.put_four-2.new.t c.put_four-3.new.t c.put_four-4.new.t
    c.args.at c.requires c.put_four.ensures c.put_four-2.ensures c.put_four-3.ensures c.put_four-4.ensures
