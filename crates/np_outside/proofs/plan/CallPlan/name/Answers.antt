use Rattle.np_outside.proofs.Passed.{count_passed-append}
use Rattle.np_outside.proofs.plan.CallPlan.name.Goals as goal

pub returns-clause-passed : goal.returns-clause-passed
returns-clause-passed c = rw c.in_ok-push.ensures.items (count_passed-append _ _ _)
