use Rattle.std.proofs.Common.{◌≡◌, ℕ, ◌<◌, false}
use Rattle.np_flow.specs.Postures.{lets_atom}
use Rattle.np_synth.proofs.dropping.first_with.Given as goal

-- none of the sets so far has it
abbrev pub invariant-loop-k : goal.invariant-loop-k
invariant-loop-k l = (k : ℕ) → k < l.k → lets_atom l.sets l.atom k ≡ false
