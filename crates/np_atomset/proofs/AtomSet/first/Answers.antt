use Rattle.std.proofs.Common.{arith, ◌∙◌, sym}
use Rattle.np_atomset.proofs.Held.{AreWordsOf-slice}
use Rattle.np_atomset.proofs.Sets.{member_within}
use Rattle.np_atomset.proofs.Answered.{IfNone-then, IfSome-then}
use Rattle.np_atomset.proofs.AtomSet.first.Goals as goal

pub first-requires : goal.first-requires
first-requires c = omega (arith, c.self.invariant.count, c.self.invariant.small, c.as_slice.ensures.len)

pub returns-clause-empty : goal.returns-clause-empty
returns-clause-empty c =
    let are = AreWordsOf-slice _ _ _ _ c.self.view_is c.self.invariant c.as_slice.ensures.value in
    IfNone-then c.first.result _ _ (λ none k. sym (are.bits k) ∙ none k) c.first.ensures.none

pub returns-clause-within : goal.returns-clause-within
returns-clause-within c =
    let are = AreWordsOf-slice _ _ _ _ c.self.view_is c.self.invariant c.as_slice.ensures.value in
    IfSome-then c.first.result _ _ (λ n set. member_within c.args.self.now n (sym (are.bits n) ∙ set)) c.first.ensures.set

pub returns-clause-member : goal.returns-clause-member
returns-clause-member c =
    let are = AreWordsOf-slice _ _ _ _ c.self.view_is c.self.invariant c.as_slice.ensures.value in
    IfSome-then c.first.result _ _ (λ n set. sym (are.bits n) ∙ set) c.first.ensures.set

pub returns-clause-least : goal.returns-clause-least
returns-clause-least c =
    let are = AreWordsOf-slice _ _ _ _ c.self.view_is c.self.invariant c.as_slice.ensures.value in
    IfSome-then c.first.result _ _ (λ n least k below. sym (are.bits k) ∙ least k below) c.first.ensures.least
