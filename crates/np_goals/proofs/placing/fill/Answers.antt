use Rattle.std.proofs.Common.{arith}
use Rattle.np_goals.specs.Sources.{IsJudged}
use Rattle.np_goals.proofs.SourceLaws.{last_is_judged, one_placed}
use Rattle.np_goals.proofs.placing.fill.Goals as goal

pub set-requires : goal.set-requires
set-requires c =
    let is : IsJudged c.args.net.now c.args.case.now c.in-Some.judged = last_is_judged c.args.net.now c.args.case.now c.loop-judged.results c.pop.new.self c.in-Some.judged c.loop-judged.verdicts c.in-Some.ensures c.loop-judged.invariant in
    omega (arith, is.goal, c.loop-judged.invariant.count)

pub loop-judged-preserved : goal.loop-judged-preserved
loop-judged-preserved c =
    rw c.set.ensures (one_placed c.args.net.now c.args.case.now c.loop-judged.results c.pop.new.self c.in-Some.judged c.loop-judged.verdicts c.in-Some.ensures c.loop-judged.invariant)
