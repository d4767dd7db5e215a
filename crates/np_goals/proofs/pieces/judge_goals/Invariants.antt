use Rattle.np_goals.specs.Sources.{AreJudged, BeginsBefore}
use Rattle.np_goals.proofs.pieces.judge_goals.Given as goal

-- the results of the goals so far
abbrev pub invariant-loop-k : goal.invariant-loop-k
invariant-loop-k l = AreJudged l.net l.case (BeginsBefore l.net.goals l.source l.k) l.results
