-- Where more headers may be around a packet, nothing that was a step ceases to be one.
use Rattle.std.proofs.Common.{ℕ, ◌<◌, ◌≤◌, List, [], ◌∷◌, length, arith}
use Rattle.np_net.specs.Plan.{Plan}
use Rattle.np_ipsec.specs.declared.places.Motion.{Motion}
use Rattle.np_ipsec.specs.declared.places.Motion.TheVariants as motions
use Rattle.np_ipsec.specs.Steps.{State, IsStep, Pushes}
use Rattle.np_ipsec.specs.Trajectories.{AreJoined, IsTrajectory}

-- only a push asks for room
pushes_of_more_depth : (net : Plan) (depth more k : ℕ) (s t : State) → depth ≤ more → Pushes net depth k s t → Pushes net more k s t
pushes_of_more_depth net depth more k s t le step = record {
  within = step.within;
  room = (let few : length s.stack < depth = step.room in omega arith);
  by_rule = step.by_rule;
  without_key = step.without_key;
  to = step.to;
}

-- a step of one depth is a step of every larger one
pub steps_of_more_depth : (net : Plan) (depth more : ℕ) (motion : Motion) (s t : State) → depth ≤ more → IsStep net depth motion s t → IsStep net more motion s t
steps_of_more_depth net depth more (motions.Enter i) s t le step = step
steps_of_more_depth net depth more motions.Pop s t le step = step
steps_of_more_depth net depth more (motions.Cross j) s t le step = step
steps_of_more_depth net depth more (motions.Push k) s t le step = pushes_of_more_depth net depth more k s t le step
steps_of_more_depth net depth more motions.Leave s t le step = step

-- states that are joined stay so
joined_of_more_depth : (net : Plan) (depth more : ℕ) (s : State) (states : List State) → depth ≤ more → AreJoined net depth s states → AreJoined net more s states
joined_of_more_depth net depth more s [] le joined = joined
joined_of_more_depth net depth more s (t ∷ states) le joined =
    ((joined.0.0, steps_of_more_depth net depth more joined.0.0 s t le joined.0.1), joined_of_more_depth net depth more t states le joined.1)

-- a trajectory of one depth is a trajectory of every larger one
pub trajectories_of_more_depth : (net : Plan) (depth more : ℕ) (first : State) (states : List State) → depth ≤ more → IsTrajectory net depth first states → IsTrajectory net more first states
trajectories_of_more_depth net depth more first states le trajectory =
    record { start = trajectory.start; joined = joined_of_more_depth net depth more first states le trajectory.joined }
