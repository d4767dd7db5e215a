use Rattle.std.proofs.Common.{◌≡◌, ◌+◌, ◌++◌, drop}
use Rattle.np_net_text.specs.CanonicalText.{lines_text}
use Rattle.np_report.specs.Atoms.{goal_lines}
use Rattle.np_report.proofs.atoms.put_goals.Given as goal

-- what is appended, with the lines that are left, is the whole
abbrev pub invariant-loop-n : goal.invariant-loop-n
invariant-loop-n l = l.text.items ++ lines_text (goal_lines (l.before + l.n + 1) (l.n + 1) (drop l.n l.goals)) ≡ l.initial.text.items ++ lines_text (goal_lines (l.before + 1) 1 l.goals)
