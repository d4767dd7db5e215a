use Rattle.std.proofs.Common.{length}
use Rattle.np_net.specs.Network.{IsIpGoal}
use Rattle.np_net_text.proofs.CanonicalLaws.{AllByRecursion-at}
use Rattle.np_net_text.proofs.canonical_ipsec.put_ipgoals.Goals as goal

pub put_ipgoal-requires : goal.put_ipgoal-requires
put_ipgoal-requires c = AllByRecursion-at (λ goal. IsIpGoal (length c.args.net.now.areas) goal) c.args.goals.now c.loop-goal.goal-index c.goal-item.result c.requires c.loop-goal-test.true c.goal-item.is
