use Rattle.std.proofs.Common.{arith}
use Rattle.np_atomset.proofs.Bits.{word_bit-made, meets}
use Rattle.np_atomset.proofs.words.meet.Goals as goal

pub returns : goal.returns
returns c =
    word_bit-made _ _ meets c.args.words.now c.args.others.now c.loop-i.words c.requires
    (λ k. let fits = c.type_inv.others k in omega arith)
    c.loop-i.auto.words
    (λ k within. c.loop-i.invariant.done k (omega arith))
