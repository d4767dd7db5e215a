use Rattle.std.proofs.Common.{◌≡◌, [], drop}
use Rattle.np_goals.specs.Sources.{sources_after}
use Rattle.np_goals.proofs.sources.of_goals.Given as goal

-- the goals that are left lead from what is gathered to all
abbrev pub invariant-loop-goal : goal.invariant-loop-goal
invariant-loop-goal l = sources_after l.sources (drop l.goal-index l.goals) ≡ sources_after [] l.goals
