use Rattle.np_traj.specs.Breaching.{AreBreaches}
use Rattle.np_traj.proofs.breaching.breaches.Given as goal

abbrev pub invariant-loop-g : goal.invariant-loop-g
invariant-loop-g g l = AreBreaches l.net l.states l.g l.breaches
