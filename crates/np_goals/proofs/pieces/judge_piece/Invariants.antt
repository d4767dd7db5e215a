use Rattle.std.proofs.Common.{take}
use Rattle.np_goals.specs.Sources.{AreJudged, BeginsIn}
use Rattle.np_goals.proofs.pieces.judge_piece.Given as goal

-- the results for the areas so far
abbrev pub invariant-loop-source : goal.invariant-loop-source
invariant-loop-source g l = AreJudged l.net l.case (BeginsIn l.net.goals (take l.source-index l.sources)) l.results
