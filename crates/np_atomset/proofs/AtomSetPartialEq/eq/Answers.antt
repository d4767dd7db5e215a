use Rattle.std.proofs.Common.{arith, ◌∙◌, ne_eqb}
use Rattle.np_atomset.proofs.Held.{AreWordsOf-slice, length-value, equal_words, unequal_lengths}
use Rattle.np_atomset.proofs.AtomSetPartialEq.eq.Goals as goal

pub returns-then-self-other : goal.returns-then-self-other
returns-then-self-other c =
    let these = AreWordsOf-slice _ _ _ _ c.self.view_is c.self.invariant c.as_slice.ensures.value in
    let those = AreWordsOf-slice _ _ _ _ c.other.view_is c.other.invariant c.as_slice-then-self-other.ensures.value in
    let long = length-value c.args.self.now c.self.inside.len c.self.inside.words.items c.self.view_is in
    let other_long = length-value c.args.other.now c.other.inside.len c.other.inside.words.items c.other.view_is in
    equal_words c.args.self.now c.args.other.now c.as_slice.result.now c.as_slice-then-self-other.result.now c.same.result
    these those c.same.ensures.fit.0 c.same.ensures.fit.1 (omega arith) c.same.ensures.equal

pub returns-else-self-other : goal.returns-else-self-other
returns-else-self-other c =
    let long = length-value c.args.self.now c.self.inside.len c.self.inside.words.items c.self.view_is in
    let other_long = length-value c.args.other.now c.other.inside.len c.other.inside.words.items c.other.view_is in
    ne_eqb c.self.inside.len c.other.inside.len c.if-self-other.false
    ∙ unequal_lengths c.args.self.now c.args.other.now (λ e. c.if-self-other.false (omega arith))
