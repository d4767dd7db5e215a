use Rattle.std.proofs.Common.{ℕ, ◌<◌}
use Rattle.np_conf.specs.Sets.{LetsOutListed}
use Rattle.np_conf.proofs.checking.under_at.Given as goal

abbrev pub invariant-loop-k : goal.invariant-loop-k
invariant-loop-k l = (n : ℕ) → n < l.k → LetsOutListed l.net l.set l.i n → ⊥
