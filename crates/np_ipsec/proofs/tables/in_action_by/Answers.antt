use Rattle.np_ipsec.proofs.RuleLaws.{in_by_rule, in_by_none}
use Rattle.np_ipsec.proofs.tables.in_action_by.Goals as goal

pub returns-in-Some : goal.returns-in-Some
returns-in-Some c = in_by_rule c.args.rules.now c.args.top.now c.args.mark c.in-Some.rule.now c.in-Some.ensures

pub returns-in-None : goal.returns-in-None
returns-in-None c = in_by_none c.args.rules.now c.args.top.now c.args.mark c.in-None.ensures
