use Rattle.std.proofs.Common.{◌≡◌, None, replicate}
use Rattle.np_conf.proofs.noting.no_sets.Given as goal

-- so many places without a set
abbrev pub invariant-loop : goal.invariant-loop
invariant-loop l = l.sets.items ≡ replicate l.counter None
