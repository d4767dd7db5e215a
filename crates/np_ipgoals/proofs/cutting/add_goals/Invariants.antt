use Rattle.std.proofs.Common.{◌≡◌, ◌++◌, map, take}
use Rattle.np_ipsec.specs.Goals.{goal_pred}
use Rattle.np_ipgoals.proofs.cutting.add_goals.Given as goal

abbrev pub invariant-loop-goal : goal.invariant-loop-goal
invariant-loop-goal l = map (λ pred. pred.now) l.preds.items ≡ map (λ pred. pred.now) l.initial.preds.items ++ map goal_pred (take l.goal-index l.goals)
