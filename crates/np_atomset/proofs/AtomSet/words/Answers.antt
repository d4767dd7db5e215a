use Rattle.np_atomset.proofs.Held.{AreWordsOf-value}
use Rattle.np_atomset.proofs.AtomSet.words.Goals as goal

pub returns : goal.returns
returns c =
    rw c.as_slice.ensures.value
    (AreWordsOf-value c.args.self.now c.self.inside.len c.self.inside.words.items c.self.view_is c.self.invariant)
