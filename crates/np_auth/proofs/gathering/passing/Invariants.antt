use Rattle.np_auth.specs.Passages.{ArePassingTo}
use Rattle.np_auth.proofs.gathering.passing.Given as goal

-- the set has those of the headers so far
abbrev pub invariant-loop-n : goal.invariant-loop-n
invariant-loop-n l = ArePassingTo l.net l.headers l.i l.mark l.n l.set
