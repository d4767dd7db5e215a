use Rattle.std.proofs.Common.{◌≡◌, ◌+◌, ◌++◌, drop}
use Rattle.np_net_text.specs.CanonicalText.{lines_text}
use Rattle.np_report.specs.Verdicts.{goals_lines}
use Rattle.np_report.proofs.verdicts.put_goals.Given as goal

-- what is appended, with the lines that are left, is the whole
abbrev pub invariant-loop-n : goal.invariant-loop-n
invariant-loop-n l = l.text.items ++ lines_text (goals_lines l.net (l.n + 1) (drop l.n l.verdicts)) ≡ l.initial.text.items ++ lines_text (goals_lines l.net 1 l.verdicts)
