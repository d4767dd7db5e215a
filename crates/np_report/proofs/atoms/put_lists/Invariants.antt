use Rattle.std.proofs.Common.{◌≡◌, ◌+◌, ◌++◌, drop}
use Rattle.np_net_text.specs.CanonicalText.{lines_text}
use Rattle.np_report.specs.Atoms.{list_lines}
use Rattle.np_report.proofs.atoms.put_lists.Given as goal

-- what is appended, with the lines that are left, is the whole
abbrev pub invariant-loop-n : goal.invariant-loop-n
invariant-loop-n l = l.text.items ++ lines_text (list_lines l.net (l.n + 1) (drop l.n l.lists)) ≡ l.initial.text.items ++ lines_text (list_lines l.net 1 l.lists)
