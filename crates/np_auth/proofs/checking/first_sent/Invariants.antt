use Rattle.std.proofs.Common.{ℕ, ◌<◌}
use Rattle.np_auth.specs.Searches.{IsSentAt}
use Rattle.np_auth.proofs.checking.first_sent.Given as goal

-- the area sends none of the headers so far
abbrev pub invariant-loop-n : goal.invariant-loop-n
invariant-loop-n l = (m : ℕ) → m < l.n → IsSentAt l.net l.pred l.a l.leasts m → ⊥
