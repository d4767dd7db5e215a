use Rattle.np_net.specs.Network.{IsInRule}
use Rattle.np_net_text.proofs.CanonicalLaws.{AllByRecursion-at}
use Rattle.np_net_text.proofs.canonical_ipsec.put_in_rules.Goals as goal

pub put_in_rule-requires : goal.put_in_rule-requires
put_in_rule-requires c = AllByRecursion-at (λ rule. IsInRule c.args.net.now.sas c.args.interface.now.device rule) c.args.rules.now c.loop-rule.rule-index c.rule-item.result c.requires c.loop-rule-test.true c.rule-item.is
