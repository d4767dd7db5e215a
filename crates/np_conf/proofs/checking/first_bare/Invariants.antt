use Rattle.std.proofs.Common.{ℕ, ◌<◌}
use Rattle.np_conf.specs.Sets.{IsOwnIn}
use Rattle.np_conf.proofs.checking.first_bare.Given as goal

-- none of the headers so far is an own one of the set
abbrev pub invariant-loop-n : goal.invariant-loop-n
invariant-loop-n l = (m : ℕ) → m < l.n → IsOwnIn l.bare l.net l.from l.pred l.leasts m → ⊥
