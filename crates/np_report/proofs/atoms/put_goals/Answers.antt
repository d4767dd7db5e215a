use Rattle.std.proofs.Common.{◌≡◌, ◌+◌, arith}
use Rattle.np_report.proofs.AtomLaws.{goal_appended}
use Rattle.np_report.proofs.atoms.put_goals.Goals as goal

pub loop-n-preserved : goal.loop-n-preserved
loop-n-preserved c =
    let next : c.args.before + (c.loop-n.n + 1) + 1 ≡ c.args.before + c.loop-n.n + 1 + 1 = omega arith in
    goal_appended _ _ _ (c.args.before + c.loop-n.n + 1) _ (c.loop-n.n + 1) c.args.goals.now c.loop-n.n c.loop-n-test.true next c.loop-n.invariant c.in_ok-put_goal.ensures
