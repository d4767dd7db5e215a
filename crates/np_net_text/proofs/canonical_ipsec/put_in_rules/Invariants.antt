use Rattle.std.proofs.Common.{◌≡◌, ◌++◌, take}
use Rattle.std.specs.List.{flat_map}
use Rattle.np_net_text.specs.Canonical as canonical
use Rattle.np_net_text.specs.CanonicalText.{line_text}
use Rattle.np_net_text.proofs.canonical_ipsec.put_in_rules.Given as goal

abbrev pub invariant-loop-rule : goal.invariant-loop-rule
invariant-loop-rule l = l.out.items ≡ l.initial.out.items ++ flat_map (λ rule. line_text (canonical.in_rule_words l.net l.interface rule)) (take l.rule-index l.rules)
