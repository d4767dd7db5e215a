use Rattle.std.proofs.Common.{◌≡◌, ◌++◌, drop}
use Rattle.np_net.specs.Network.{AreTables}
use Rattle.np_net_text.specs.Canonical.{rule_lines}
use Rattle.np_net_text.specs.CanonicalText.{lines_text}
use Rattle.np_net_text.proofs.canonical_ipsec.put_rules.Given as goal

-- what is appended, with the lines that are left, is the whole
abbrev pub invariant-loop-interface : goal.invariant-loop-interface
invariant-loop-interface l = record {
  text : l.out.items ++ lines_text (rule_lines l.net (drop l.interface-index l.interfaces) l.left) ≡ l.initial.out.items ++ lines_text (rule_lines l.net l.interfaces l.tables);
  tables : AreTables l.net.sas (drop l.interface-index l.interfaces) l.left;
}
