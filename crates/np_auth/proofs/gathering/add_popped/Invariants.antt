use Rattle.std.proofs.Common.{Some}
use Rattle.np_auth.specs.Passages.{AreUpTo}
use Rattle.np_auth.proofs.gathering.add_popped.Given as goal

-- the passages of the associations so far are there
abbrev pub invariant-loop-k : goal.invariant-loop-k
invariant-loop-k l = AreUpTo l.net l.headers l.i (Some l.k) l.list
