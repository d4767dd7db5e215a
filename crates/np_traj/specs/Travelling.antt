-- What the loop over the moves of a script knows.
use Rattle.std.specs.Prelude.{ℕ, List, ◌++◌, All, Option, drop}
use Rattle.np_net.specs.Plan.{Plan}
use Rattle.np_ipsec.specs.declared.places.Motion.{Motion}
use Rattle.np_ipsec.specs.Steps.{State}
use Rattle.np_traj.specs.Replaying.{AreMoved, AreTravelled}
use Rattle.np_traj.specs.States.{IsStateOf}
use Rattle.np_traj.specs.declared.states.Illegal.{Illegal}

-- After so many motions, which led to these states, the last of which is this one: whatever comes of the rest comes after them of all.
pub record AreTravelledSoFar (net : Plan) (depth : ℕ) (first : State) (motions : List Motion) (made : ℕ) (states : List State) (last : State) : Type 0 where
  pub rest : (more : List State) (stop : Option (ℕ × Illegal)) → AreMoved net depth made last (drop made motions) more stop → AreTravelled net depth first motions (states ++ more) stop
  pub each : All (λ s. IsStateOf net s) states
  pub last_fits : IsStateOf net last
