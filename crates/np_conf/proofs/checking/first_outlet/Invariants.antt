use Rattle.np_conf.specs.Sets.{NoneGoesOut}
use Rattle.np_conf.proofs.checking.first_outlet.Given as goal

-- none goes out at the outlets so far
abbrev pub invariant-loop-m : goal.invariant-loop-m
invariant-loop-m l = NoneGoesOut l.list l.net l.from l.pred l.leasts l.m
