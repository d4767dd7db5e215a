use Rattle.np_conf.specs.Outlets.{PutsBefore}
use Rattle.np_conf.specs.Sets.{Adds}
use Rattle.np_conf.proofs.gathering.add_all.Given as goal

abbrev pub invariant-loop-i : goal.invariant-loop-i
invariant-loop-i l = Adds (PutsBefore l.net l.top l.i) l.fn.set l.set
