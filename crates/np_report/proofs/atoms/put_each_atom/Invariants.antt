use Rattle.std.proofs.Common.{◌≡◌, ◌++◌, drop}
use Rattle.np_net_text.specs.CanonicalText.{lines_text}
use Rattle.np_report.specs.Atoms.{atom_lines}
use Rattle.np_report.proofs.atoms.put_each_atom.Given as goal

-- what is appended, with the lines that are left, is the whole
abbrev pub invariant-loop-n : goal.invariant-loop-n
invariant-loop-n l = l.text.items ++ lines_text (atom_lines l.cuts l.n (drop l.n l.leasts)) ≡ l.initial.text.items ++ lines_text (atom_lines l.cuts 0 l.leasts)
