use Rattle.std.proofs.Common.{◌≡◌, map, take}
use Rattle.np_cut.proofs.filtering.goal_preds.Given as goal

abbrev pub invariant-loop-goal : goal.invariant-loop-goal
invariant-loop-goal l = map (λ pred. pred.now) l.preds.items ≡ map (λ goal. goal.pred) (take l.goal-index l.goals)
