use Rattle.np_traj.proofs.BreachesLaws.{one_list}
use Rattle.np_traj.proofs.laws.replays_have_breaches.Goals as goal

pub returns-clause-unique : goal.returns-clause-unique
returns-clause-unique c = one_list
