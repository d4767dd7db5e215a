use Rattle.std.proofs.Common.{◌≡◌, ◌++◌, drop}
use Rattle.np_net_text.specs.Canonical.{free_lines}
use Rattle.np_net_text.specs.CanonicalText.{lines_text}
use Rattle.np_net_text.proofs.canonical.put_free.Given as goal

-- what is appended, with the lines that are left, is the whole
abbrev pub invariant-loop-interface : goal.invariant-loop-interface
invariant-loop-interface l =
    l.out.items ++ lines_text (free_lines l.net (drop l.interface-index l.interfaces) l.flags) ≡ l.initial.out.items ++ lines_text (free_lines l.net l.interfaces l.free)
