use Rattle.np_ipsec.proofs.RuleLaws.{out_by_rule, out_by_none}
use Rattle.np_ipsec.proofs.tables.out_action_by.Goals as goal

pub returns-in-Some : goal.returns-in-Some
returns-in-Some c = out_by_rule c.args.rules.now c.args.top.now c.in-Some.rule.now c.in-Some.ensures

pub returns-in-None : goal.returns-in-None
returns-in-None c = out_by_none c.args.rules.now c.args.top.now c.in-None.ensures
