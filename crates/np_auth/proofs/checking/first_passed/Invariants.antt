use Rattle.std.proofs.Common.{ℕ, ◌<◌}
use Rattle.np_auth.specs.Searches.{IsMeantIn}
use Rattle.np_auth.proofs.checking.first_passed.Given as goal

-- none of the headers so far is one of the set for which the predicate holds
abbrev pub invariant-loop-n : goal.invariant-loop-n
invariant-loop-n l = (m : ℕ) → m < l.n → IsMeantIn l.set l.leasts l.pred m → ⊥
