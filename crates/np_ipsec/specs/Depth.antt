-- Laws of steps and trajectories: of their depth, of the plain header, and of the places to which steps lead.
use Rattle.std.specs.Prelude.{◌≡◌, ℕ, ◌≤◌, List}
use Rattle.np_net.specs.Network.{IsNetwork}
use Rattle.np_net.specs.Plan.{Plan}
use Rattle.np_ipsec.specs.declared.places.Motion.{Motion}
use Rattle.np_ipsec.specs.Steps.{State, IsPlace, IsStep}
use Rattle.np_ipsec.specs.Trajectories.{IsTrajectory}

-- a step of one depth is a step of every larger one
abbrev pub StepsOfMoreDepth : Type 0
StepsOfMoreDepth = (net : Plan) (depth more : ℕ) (motion : Motion) (s t : State) → depth ≤ more → IsStep net depth motion s t → IsStep net more motion s t

-- a trajectory of one depth is a trajectory of every larger one
abbrev pub TrajectoriesOfMoreDepth : Type 0
TrajectoriesOfMoreDepth = (net : Plan) (depth more : ℕ) (first : State) (states : List State) → depth ≤ more → IsTrajectory net depth first states → IsTrajectory net more first states

-- a step keeps the plain header
abbrev pub StepsKeepPlain : Type 0
StepsKeepPlain = (net : Plan) (depth : ℕ) (motion : Motion) (s t : State) → IsStep net depth motion s t → t.plain ≡ s.plain

-- in a network a step from a place leads to a place
abbrev pub StepsStayInside : Type 0
StepsStayInside = (net : Plan) → IsNetwork net → (depth : ℕ) (motion : Motion) (s t : State) → IsPlace net s.place → IsStep net depth motion s t → IsPlace net t.place
