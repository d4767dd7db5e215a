use Rattle.std.proofs.Common.{◌≤◌, ◌-◌, length}
use Rattle.np_goals.proofs.placing.places.Given as goal

abbrev pub invariant-loop-verdicts : goal.invariant-loop-verdicts
invariant-loop-verdicts l = length l.verdicts ≤ l.count

abbrev pub decreases-loop-verdicts : goal.decreases-loop-verdicts
decreases-loop-verdicts l = l.count - length l.verdicts
