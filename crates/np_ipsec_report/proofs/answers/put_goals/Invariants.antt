use Rattle.std.proofs.Common.{◌≡◌, ◌+◌, ◌++◌, drop}
use Rattle.np_net_text.specs.CanonicalText.{lines_text}
use Rattle.np_ipsec_report.specs.Answers.{answer_lines}
use Rattle.np_ipsec_report.proofs.answers.put_goals.Given as goal

-- what is appended, with the lines that are left, is the whole
abbrev pub invariant-loop-n : goal.invariant-loop-n
invariant-loop-n l = l.text.items ++ lines_text (answer_lines l.net (l.n + 1) (drop l.n l.answers)) ≡ l.initial.text.items ++ lines_text (answer_lines l.net 1 l.answers)
