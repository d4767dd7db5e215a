use Rattle.np_auth.specs.Searches.{NonePasses}
use Rattle.np_auth.proofs.checking.first_passage.Given as goal

-- none passes at the passages so far
abbrev pub invariant-loop-m : goal.invariant-loop-m
invariant-loop-m l = NonePasses l.list l.leasts l.pred l.m
