use Rattle.std.proofs.Common.{ℕ, ◌<◌}
use Rattle.np_conf.specs.Sets.{IsLeft}
use Rattle.np_conf.proofs.gathering.next_left.Given as goal

abbrev pub invariant-loop-k : goal.invariant-loop-k
invariant-loop-k l = (k : ℕ) → k < l.k → IsLeft l.set l.done k → ⊥
