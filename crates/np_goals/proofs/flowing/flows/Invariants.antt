use Rattle.np_goals.specs.Judging.{AreFlows}
use Rattle.np_goals.proofs.flowing.flows.Given as goal

abbrev pub invariant-loop-area : goal.invariant-loop-area
invariant-loop-area l = AreFlows l.net l.posture.slots l.area l.flows.items
