use Rattle.std.proofs.lemmas.Result.{IfOk-weaker}
use Rattle.np_goals.proofs.all.judge_par.Goals as goal

pub judge_halves-requires-clause-areas : goal.judge_halves-requires-clause-areas
judge_halves-requires-clause-areas g c κs lives = rw c.as_slice.ensures c.in_ok-sources.ensures.areas

pub placed-requires : goal.placed-requires
placed-requires g c = (c.as_slice.result.now, c.in_ok-results.ensures, rw c.as_slice.ensures c.in_ok-sources.ensures.all)

pub returns-clause-verdicts : goal.returns-clause-verdicts
returns-clause-verdicts g c = IfOk-weaker c.placed.result _ _ (λ verdicts are. λ applied is k d below. (are.each k below).right applied is d) c.placed.ensures
