use Rattle.np_traj.specs.Travelling.{AreTravelledSoFar}
use Rattle.np_traj.proofs.travelling.travel.Given as goal

abbrev pub invariant-loop-n : goal.invariant-loop-n
invariant-loop-n g l = AreTravelledSoFar l.net g.row.N l.fn.first l.moves l.n l.states l.last
