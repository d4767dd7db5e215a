use Rattle.std.proofs.Common.{arith, refl, ◌≡◌, ap, ◌||◌}
use Rattle.std.specs.Int.{div_ceil}
use Rattle.np_atomset.proofs.Held.{AreWordsOf-slice, AreWordsOf-combine, length-value}
use Rattle.np_atomset.proofs.Sets.{length-combine}
use Rattle.np_atomset.proofs.Written.{combine_written, changed_set}
use Rattle.np_atomset.proofs.AtomSet.join_with.Goals as goal

pub join-requires : goal.join-requires
join-requires c =
    let long = length-value c.args.self.now c.self.inside.len c.self.inside.words.items c.self.view_is in
    let other_long = length-value c.args.other.now c.other.inside.len c.other.inside.words.items c.other.view_is in
    let same : c.self.inside.len ≡ c.other.inside.len = omega arith in
    let count = ap (λ n. div_ceil n 64) same in
    omega (arith, c.self.invariant.count, c.other.invariant.count, c.as_slice.ensures.len, c.as_mut_slice.ensures.len)

pub invariant_of-self : goal.invariant_of-self
invariant_of-self c =
    let others = AreWordsOf-slice _ _ _ _ c.other.view_is c.other.invariant c.as_slice.ensures.value in
    (combine_written (λ x y. x || y) refl _ _ _ c.self.inside.words _ _ c.join.new.words c.self.view_is c.self.invariant others c.requires
    c.as_mut_slice.ensures.value c.join.auto.words c.as_mut_slice.ensures.len c.join.ensures.bits).0

pub returns-clause-all : goal.returns-clause-all
returns-clause-all c =
    let others = AreWordsOf-slice _ _ _ _ c.other.view_is c.other.invariant c.as_slice.ensures.value in
    (combine_written (λ x y. x || y) refl _ _ _ c.self.inside.words _ _ c.join.new.words c.self.view_is c.self.invariant others c.requires
    c.as_mut_slice.ensures.value c.join.auto.words c.as_mut_slice.ensures.len c.join.ensures.bits).1

pub returns-clause-grew : goal.returns-clause-grew
returns-clause-grew c =
    let now = AreWordsOf-slice _ _ _ _ c.self.view_is c.self.invariant c.as_mut_slice.ensures.value in
    let others = AreWordsOf-slice _ _ _ _ c.other.view_is c.other.invariant c.as_slice.ensures.value in
    let made =
    AreWordsOf-combine (λ x y. x || y) refl _ _ _ _ c.join.new.words now others c.requires c.join.auto.words c.join.ensures.bits in
    let value =
    (combine_written (λ x y. x || y) refl _ _ _ c.self.inside.words _ _ c.join.new.words c.self.view_is c.self.invariant others c.requires
    c.as_mut_slice.ensures.value c.join.auto.words c.as_mut_slice.ensures.len c.join.ensures.bits).1 in
    changed_set _ _ _ _ _ _ now made (length-combine (λ x y. x || y) c.args.self.now c.args.other.now c.requires) value
    c.join.ensures.fit.0 c.join.ensures.fit.1 c.join.ensures.changed
