use Rattle.std.proofs.Common.{◌≡◌, ℕ, ◌<◌}
use Rattle.np_net.specs.declared.filtering.Goal.{Goal}
use Rattle.np_goals.specs.Cases.{goal_at}
use Rattle.np_goals.proofs.flowing.begins.Given as goal

-- none of the goals so far begins there
abbrev pub invariant-loop-goal : goal.invariant-loop-goal
invariant-loop-goal l = (k : ℕ) (d : Goal) → k < l.goal-index → (goal_at l.goals d k).from ≡ l.area → ⊥
