use Rattle.std.proofs.Common.{◌≡◌, ◌++◌, drop}
use Rattle.std.specs.List.{flat_map}
use Rattle.np_net_text.specs.CanonicalText.{lines_text}
use Rattle.np_report.specs.Synthesis.{drop_lines}
use Rattle.np_report.proofs.synthesis.put_drops.Given as goal

-- what is appended, with the lines that are left, is the whole
abbrev pub invariant-loop-n : goal.invariant-loop-n
invariant-loop-n l = l.text.items ++ lines_text (flat_map (drop_lines l.net) (drop l.n l.drops)) ≡ l.initial.text.items ++ lines_text (flat_map (drop_lines l.net) l.drops)
