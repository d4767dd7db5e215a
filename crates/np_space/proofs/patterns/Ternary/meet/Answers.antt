use Rattle.np_space.proofs.PatternLemmas.{clash_none, meet_same, meet_cleared, meet_narrower}
use Rattle.np_space.proofs.patterns.Ternary.meet.Goals as goal

pub returns-then-self-other-ne0-clause-exact : goal.returns-then-self-other-ne0-clause-exact
returns-then-self-other-ne0-clause-exact c = clash_none c.args.self.now c.args.other.now c.if-self-other-ne0.true

pub invariant_of-result-clause-cleared : goal.invariant_of-result-clause-cleared
invariant_of-result-clause-cleared c = meet_cleared c.args.self.now c.args.other.now c.if-self-other-ne0.false

pub returns-clause-exact : goal.returns-clause-exact
returns-clause-exact c = meet_same c.args.self.now c.args.other.now c.if-self-other-ne0.false

pub returns-clause-narrower : goal.returns-clause-narrower
returns-clause-narrower c = λ i fixed.
    let same = meet_narrower c.args.self.now c.args.other.now c.if-self-other-ne0.false i fixed in
    record { wild = same.0; value = same.1 }
