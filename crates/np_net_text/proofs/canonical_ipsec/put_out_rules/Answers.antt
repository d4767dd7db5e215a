use Rattle.np_net.specs.Network.{IsOutRule}
use Rattle.np_net_text.proofs.CanonicalLaws.{AllByRecursion-at}
use Rattle.np_net_text.proofs.canonical_ipsec.put_out_rules.Goals as goal

pub put_out_rule-requires : goal.put_out_rule-requires
put_out_rule-requires c = AllByRecursion-at (λ rule. IsOutRule c.args.net.now.sas c.args.interface.now.device rule) c.args.rules.now c.loop-rule.rule-index c.rule-item.result c.requires c.loop-rule-test.true c.rule-item.is
