use Rattle.np_conf.specs.Sets.{Adds, IsAroundBefore}
use Rattle.np_conf.proofs.gathering.add_around.Given as goal

abbrev pub invariant-loop-k : goal.invariant-loop-k
invariant-loop-k l = Adds (IsAroundBefore l.around l.n l.k) l.fn.set l.set
