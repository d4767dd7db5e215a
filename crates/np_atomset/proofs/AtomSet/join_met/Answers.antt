use Rattle.std.proofs.Common.{arith, ◌≡◌, ap}
use Rattle.std.specs.Int.{div_ceil}
use Rattle.np_atomset.proofs.Held.{AreWordsOf-slice, AreWordsOf-join_met, length-value}
use Rattle.np_atomset.proofs.Sets.{length-join_met}
use Rattle.np_atomset.proofs.Written.{join_met_written, changed_set}
use Rattle.np_atomset.proofs.AtomSet.join_met.Goals as goal

pub join_met-requires-clause-xs : goal.join_met-requires-clause-xs
join_met-requires-clause-xs c =
    let long = length-value c.args.self.now c.self.inside.len c.self.inside.words.items c.self.view_is in
    let x_long = length-value c.args.x.now c.x.inside.len c.x.inside.words.items c.x.view_is in
    let same : c.self.inside.len ≡ c.x.inside.len = omega arith in
    let count = ap (λ n. div_ceil n 64) same in
    omega (arith, c.self.invariant.count, c.x.invariant.count, c.as_slice.ensures.len, c.as_mut_slice.ensures.len)

pub join_met-requires-clause-ys : goal.join_met-requires-clause-ys
join_met-requires-clause-ys c =
    let long = length-value c.args.self.now c.self.inside.len c.self.inside.words.items c.self.view_is in
    let y_long = length-value c.args.y.now c.y.inside.len c.y.inside.words.items c.y.view_is in
    let same : c.self.inside.len ≡ c.y.inside.len = omega arith in
    let count = ap (λ n. div_ceil n 64) same in
    omega (arith, c.self.invariant.count, c.y.invariant.count, c.as_slice-2.ensures.len, c.as_mut_slice.ensures.len)

pub invariant_of-self : goal.invariant_of-self
invariant_of-self c =
    let xs = AreWordsOf-slice _ _ _ _ c.x.view_is c.x.invariant c.as_slice.ensures.value in
    let ys = AreWordsOf-slice _ _ _ _ c.y.view_is c.y.invariant c.as_slice-2.ensures.value in
    (join_met_written _ _ _ _ c.self.inside.words _ _ _ c.join_met.new.words c.self.view_is c.self.invariant xs ys c.requires.x c.requires.y
    c.as_mut_slice.ensures.value c.join_met.auto.words c.as_mut_slice.ensures.len c.join_met.ensures.bits).0

pub returns-clause-all : goal.returns-clause-all
returns-clause-all c =
    let xs = AreWordsOf-slice _ _ _ _ c.x.view_is c.x.invariant c.as_slice.ensures.value in
    let ys = AreWordsOf-slice _ _ _ _ c.y.view_is c.y.invariant c.as_slice-2.ensures.value in
    (join_met_written _ _ _ _ c.self.inside.words _ _ _ c.join_met.new.words c.self.view_is c.self.invariant xs ys c.requires.x c.requires.y
    c.as_mut_slice.ensures.value c.join_met.auto.words c.as_mut_slice.ensures.len c.join_met.ensures.bits).1

pub returns-clause-grew : goal.returns-clause-grew
returns-clause-grew c =
    let now = AreWordsOf-slice _ _ _ _ c.self.view_is c.self.invariant c.as_mut_slice.ensures.value in
    let xs = AreWordsOf-slice _ _ _ _ c.x.view_is c.x.invariant c.as_slice.ensures.value in
    let ys = AreWordsOf-slice _ _ _ _ c.y.view_is c.y.invariant c.as_slice-2.ensures.value in
    let made =
    AreWordsOf-join_met _ _ _ _ _ _ c.join_met.new.words now xs ys c.requires.x c.requires.y c.join_met.auto.words c.join_met.ensures.bits in
    let value =
    (join_met_written _ _ _ _ c.self.inside.words _ _ _ c.join_met.new.words c.self.view_is c.self.invariant xs ys c.requires.x c.requires.y
    c.as_mut_slice.ensures.value c.join_met.auto.words c.as_mut_slice.ensures.len c.join_met.ensures.bits).1 in
    changed_set _ _ _ _ _ _ now made (length-join_met c.args.self.now c.args.x.now c.args.y.now c.requires.x c.requires.y) value
    c.join_met.ensures.fit.0 c.join_met.ensures.fit.1 c.join_met.ensures.changed
