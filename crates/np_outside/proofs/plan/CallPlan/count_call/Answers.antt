use Rattle.np_outside.proofs.Passed.{count_passed_next}
use Rattle.np_outside.proofs.plan.CallPlan.count_call.Goals as goal

pub returns-clause-passed : goal.returns-clause-passed
returns-clause-passed c = rw (c.contains.ensures.value, c.deref.ensures.value) (count_passed_next _ _)
