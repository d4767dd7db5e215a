use Rattle.std.proofs.Common.{◌≡◌, ◌++◌, take}
use Rattle.std.specs.List.{flat_map}
use Rattle.np_net_text.specs.Canonical as canonical
use Rattle.np_net_text.specs.CanonicalText.{line_text}
use Rattle.np_net_text.proofs.canonical_ipsec.put_ipgoals.Given as goal

abbrev pub invariant-loop-goal : goal.invariant-loop-goal
invariant-loop-goal l = l.out.items ≡ l.initial.out.items ++ flat_map (λ goal. line_text (canonical.ipgoal_words l.net goal)) (take l.goal-index l.goals)
