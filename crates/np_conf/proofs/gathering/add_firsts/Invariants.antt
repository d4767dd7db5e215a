use Rattle.np_conf.specs.Sets.{Adds, PutsAround}
use Rattle.np_conf.proofs.gathering.add_firsts.Given as goal

abbrev pub invariant-loop-n : goal.invariant-loop-n
invariant-loop-n l = Adds (PutsAround l.net l.from l.pred l.leasts l.n) l.fn.set l.set
