use Rattle.std.proofs.Common.{arith, refl, ◌&&◌, not, ◌≡◌, ap}
use Rattle.std.specs.Int.{div_ceil}
use Rattle.np_atomset.proofs.Held.{AreWordsOf-slice, length-value}
use Rattle.np_atomset.proofs.Written.{combine_written}
use Rattle.np_atomset.proofs.AtomSet.minus_with.Goals as goal

pub minus-requires : goal.minus-requires
minus-requires c =
    let long = length-value c.args.self.now c.self.inside.len c.self.inside.words.items c.self.view_is in
    let other_long = length-value c.args.other.now c.other.inside.len c.other.inside.words.items c.other.view_is in
    let same : c.self.inside.len ≡ c.other.inside.len = omega arith in
    let count = ap (λ n. div_ceil n 64) same in
    omega (arith, c.self.invariant.count, c.other.invariant.count, c.as_slice.ensures.len, c.as_mut_slice.ensures.len)

pub invariant_of-self : goal.invariant_of-self
invariant_of-self c =
    let others = AreWordsOf-slice _ _ _ _ c.other.view_is c.other.invariant c.as_slice.ensures.value in
    (combine_written (λ x y. x && not y) refl _ _ _ c.self.inside.words _ _ c.minus.new.words c.self.view_is c.self.invariant others c.requires
    c.as_mut_slice.ensures.value c.minus.auto.words c.as_mut_slice.ensures.len c.minus.ensures).0

pub returns : goal.returns
returns c =
    let others = AreWordsOf-slice _ _ _ _ c.other.view_is c.other.invariant c.as_slice.ensures.value in
    (combine_written (λ x y. x && not y) refl _ _ _ c.self.inside.words _ _ c.minus.new.words c.self.view_is c.self.invariant others c.requires
    c.as_mut_slice.ensures.value c.minus.auto.words c.as_mut_slice.ensures.len c.minus.ensures).1
