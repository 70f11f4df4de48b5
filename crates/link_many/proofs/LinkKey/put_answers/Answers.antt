-- `put_answers` answers the links one after the other. Assumes nothing.
use Rattle.std.proofs.Common.{◌≡◌, ◌≢◌, ℕ, ◌+◌, ◌-◌, ◌*◌, ◌<◌, take, drop, length, ap, ◌∙◌, arith, below_more, get_or-set_other, get_or-set_same}
use mir.Val.{bool_byte}
use Rattle.ghash_block.specs.Block.{key_of}
use Rattle.link_many.specs.Links.{agrees}
use Rattle.link_many.proofs.Records.{answers-are, byte-of_answer}
use Rattle.link_many.proofs.LinkKey.put_answers.Goals as goal

pub loop-i-preserved : goal.loop-i-preserved
loop-i-preserved c =
    let i = c.loop-i.i in
    let h = key_of c.args.self.now.key in
    let s = c.args.records.now in
    let whole : 32 * (i + 1) - 32 * i ≡ 32 = omega arith in
    below_more _ _
    (λ k before. let ne : k ≢ i = omega arith in rw get_or-set_other (c.loop-i.invariant k before))
    (let inside : i < length c.loop-i.results = omega arith in
    rw get_or-set_same
    (c.from.ensures ∙ ap bool_byte (c.agrees.ensures ∙ ap (λ (n : ℕ). agrees h (take n (drop (32 * i) s))) whole) ∙ byte-of_answer _))

pub returns : goal.returns
returns c =
    answers-are (key_of c.args.self.now.key) c.args.records.now c.loop-i.results (omega arith) (λ k l. c.loop-i.invariant k (omega arith))
