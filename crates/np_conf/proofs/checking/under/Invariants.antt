use Rattle.std.proofs.Common.{ℕ, ◌<◌}
use Rattle.np_conf.specs.Sets.{LetsOutListed}
use Rattle.np_conf.proofs.checking.under.Given as goal

abbrev pub invariant-loop-i : goal.invariant-loop-i
invariant-loop-i l = (n : ℕ) → n < l.i → (k : ℕ) → LetsOutListed l.net l.set n k → ⊥
