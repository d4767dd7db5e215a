use Rattle.std.proofs.Common.{length}
use Rattle.np_goals.specs.Sources.{ArePlaced}
use Rattle.np_goals.proofs.placing.fill.Given as goal

-- what is left answers the goals that have no verdict yet
abbrev pub invariant-loop-judged : goal.invariant-loop-judged
invariant-loop-judged l = ArePlaced l.net l.case l.results l.verdicts

abbrev pub decreases-loop-judged : goal.decreases-loop-judged
decreases-loop-judged l = length l.results
