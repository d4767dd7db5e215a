use Rattle.std.proofs.Common.{arith}
use Rattle.np_atomset.proofs.Bits.{word_bit-first}
use Rattle.np_atomset.proofs.words.first.Goals as goal

pub returns-then-word-ne0-clause-set : goal.returns-then-word-ne0-clause-set
returns-then-word-ne0-clause-set c =
    let fits = c.type_inv.words c.loop-i.i in
    (word_bit-first c.args.words.now c.loop-i.i c.if-word-ne0.true (omega arith) c.loop-i.invariant).0

pub returns-then-word-ne0-clause-least : goal.returns-then-word-ne0-clause-least
returns-then-word-ne0-clause-least c =
    let fits = c.type_inv.words c.loop-i.i in
    (word_bit-first c.args.words.now c.loop-i.i c.if-word-ne0.true (omega arith) c.loop-i.invariant).1
