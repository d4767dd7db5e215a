use Rattle.std.proofs.Common.{◌≡◌, ◌++◌, map, take}
use Rattle.std.specs.List.{flat_map}
use Rattle.np_ipgoals.specs.Cuts.{asked}
use Rattle.np_ipgoals.proofs.cutting.add_ins.Given as goal

abbrev pub invariant-loop-rule : goal.invariant-loop-rule
invariant-loop-rule l = map (λ pred. pred.now) l.preds.items ≡ map (λ pred. pred.now) l.initial.preds.items ++ flat_map (λ rule. asked rule.top) (take l.rule-index l.rules)
