use Rattle.std.proofs.Common.{ℕ, ◌<◌}
use Rattle.np_ipsec.specs.Goals.{IsForeign}
use Rattle.np_ipsec.proofs.goals.first_foreign.Given as goal

-- none so far is foreign
abbrev pub invariant-loop-i : goal.invariant-loop-i
invariant-loop-i l = (k : ℕ) → k < l.i → IsForeign l.net k → ⊥
