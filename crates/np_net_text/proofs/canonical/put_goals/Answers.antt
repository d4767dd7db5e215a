use Rattle.std.proofs.Common.{length}
use Rattle.np_net.specs.Network.{IsGoal}
use Rattle.np_net_text.proofs.CanonicalLaws.{AllByRecursion-at}
use Rattle.np_net_text.proofs.canonical.put_goals.Goals as goal

pub put_goal-requires : goal.put_goal-requires
put_goal-requires c = AllByRecursion-at (λ goal. IsGoal (length c.args.net.now.areas) goal) c.args.goals.now c.loop-goal.goal-index c.goal-item.result c.requires c.loop-goal-test.true c.goal-item.is
