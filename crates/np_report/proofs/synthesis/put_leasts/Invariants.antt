use Rattle.std.proofs.Common.{◌≡◌, ◌++◌, drop}
use Rattle.np_net_text.specs.CanonicalText.{lines_text}
use Rattle.np_report.specs.Synthesis.{least_lines}
use Rattle.np_report.proofs.synthesis.put_leasts.Given as goal

-- what is appended, with the lines that are left, is the whole
abbrev pub invariant-loop-n : goal.invariant-loop-n
invariant-loop-n l = l.text.items ++ lines_text (least_lines l.n (drop l.n l.leasts)) ≡ l.initial.text.items ++ lines_text (least_lines 0 l.leasts)
