use Rattle.np_atomset.proofs.Bits.{word_bit-remove}
use Rattle.np_atomset.proofs.words.remove.Goals as goal

pub returns-clause-clear : goal.returns-clause-clear
returns-clause-clear c = (word_bit-remove c.args.words.now c.args.n c.requires).0

pub returns-clause-others : goal.returns-clause-others
returns-clause-others c = (word_bit-remove c.args.words.now c.args.n c.requires).1
