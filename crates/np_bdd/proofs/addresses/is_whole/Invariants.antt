use Rattle.std.proofs.Common.{◌<◌}
use Rattle.np_bdd.proofs.addresses.is_whole.Given as goal

abbrev pub invariant-loop-pattern : goal.invariant-loop-pattern
invariant-loop-pattern l = 0 < l.pattern-index → 0 < l.width
