use Rattle.np_atomset.proofs.Held.{AreWordsOf-slice, word_within}
use Rattle.np_atomset.proofs.Written.{set_written}
use Rattle.np_atomset.proofs.AtomSet.remove.Goals as goal

pub remove-requires : goal.remove-requires
remove-requires c =
    let are = AreWordsOf-slice _ _ _ _ c.self.view_is c.self.invariant c.as_mut_slice.ensures.value in
    word_within c.args.self.now c.as_mut_slice.result.now c.args.n are c.requires

pub invariant_of-self : goal.invariant_of-self
invariant_of-self c =
    (set_written _ _ c.self.inside.words _ _ _ c.remove.new.words c.self.view_is c.self.invariant c.requires
    c.as_mut_slice.ensures.value c.remove.auto.words c.as_mut_slice.ensures.len c.remove.ensures.clear c.remove.ensures.others).0

pub returns : goal.returns
returns c =
    (set_written _ _ c.self.inside.words _ _ _ c.remove.new.words c.self.view_is c.self.invariant c.requires
    c.as_mut_slice.ensures.value c.remove.auto.words c.as_mut_slice.ensures.len c.remove.ensures.clear c.remove.ensures.others).1
