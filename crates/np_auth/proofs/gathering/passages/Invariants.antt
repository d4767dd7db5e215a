use Rattle.std.proofs.Common.{None}
use Rattle.np_auth.specs.Passages.{AreUpTo}
use Rattle.np_auth.proofs.gathering.passages.Given as goal

-- the passages of the interfaces so far are there
abbrev pub invariant-loop-i : goal.invariant-loop-i
invariant-loop-i l = AreUpTo l.net l.headers l.i None l.list
