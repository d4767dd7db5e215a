use Rattle.std.proofs.Common.{◌≡◌, ℕ, ◌<◌, false}
use Rattle.np_traj.specs.Sighting.{is_exposed, state_at}
use Rattle.np_traj.proofs.breaching.exposure.Given as goal

-- none of the states so far is
abbrev pub invariant-loop-n : goal.invariant-loop-n
invariant-loop-n g l = (m : ℕ) → m < l.n → is_exposed l.net (state_at l.states m) ≡ false
