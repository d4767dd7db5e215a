use Rattle.std.proofs.Common.{◌∙◌}
use Rattle.np_atomset.proofs.Held.{AreWordsOf-slice, word_within}
use Rattle.np_atomset.proofs.AtomSet.has.Goals as goal

pub has-requires : goal.has-requires
has-requires c =
    let are = AreWordsOf-slice _ _ _ _ c.self.view_is c.self.invariant c.as_slice.ensures.value in
    word_within c.args.self.now c.as_slice.result.now c.args.n are c.requires

pub returns : goal.returns
returns c =
    let are = AreWordsOf-slice _ _ _ _ c.self.view_is c.self.invariant c.as_slice.ensures.value in
    c.has.ensures ∙ are.bits c.args.n
