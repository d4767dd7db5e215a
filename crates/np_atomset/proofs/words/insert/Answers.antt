use Rattle.np_atomset.proofs.Bits.{word_bit-insert}
use Rattle.np_atomset.proofs.words.insert.Goals as goal

pub returns-clause-set : goal.returns-clause-set
returns-clause-set c = (word_bit-insert c.args.words.now c.args.n c.requires).0

pub returns-clause-others : goal.returns-clause-others
returns-clause-others c = (word_bit-insert c.args.words.now c.args.n c.requires).1
