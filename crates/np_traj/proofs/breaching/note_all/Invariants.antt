use Rattle.np_traj.specs.Sighting.{AreArrivals}
use Rattle.np_traj.proofs.breaching.note_all.Given as goal

abbrev pub invariant-loop-n : goal.invariant-loop-n
invariant-loop-n g l = AreArrivals l.states l.n l.arrivals
