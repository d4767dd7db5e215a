-- Which goals the states of a trajectory break.
use Rattle.std.specs.Prelude.{◌≡◌, ℕ, ◌<◌, List, All, AllPairs, Contains, Some, slice_get}
use Rattle.np_net.specs.Plan.{Plan}
use Rattle.np_net.specs.declared.associations.IpGoal.{IpGoal}
use Rattle.np_ipsec.specs.Steps.{State}
use Rattle.np_ipsec.specs.Trajectories.{BreaksGoal}

-- the state of this number breaks the goal of this number, in a trajectory of these states
pub record BreaksAt (net : Plan) (states : List State) (g n : ℕ) : Type 0 where
  pub the_goal : IpGoal
  pub first : State
  pub here : State
  pub goal_is : slice_get net.ipgoals g ≡ Some the_goal
  pub first_is : slice_get states 0 ≡ Some first
  pub here_is : slice_get states n ≡ Some here
  pub breaks : BreaksGoal net the_goal first here

-- it is the first that does
pub record IsFirstBreach (net : Plan) (states : List State) (g n : ℕ) : Type 0 where
  pub breaks : BreaksAt net states g n
  pub first : (m : ℕ) → m < n → BreaksAt net states g m → ⊥

-- These are the breaches of the first so many goals: each goal that some state breaks, with the first such state, in the order of the goals.
pub record AreBreaches (net : Plan) (states : List State) (goals : ℕ) (breaches : List (ℕ × ℕ)) : Type 0 where
  pub each : All (λ breach. (breach.0 < goals) × IsFirstBreach net states breach.0 breach.1) breaches
  pub all : (g n : ℕ) → g < goals → BreaksAt net states g n → (m : ℕ) × Contains breaches (g, m)
  pub ascending : AllPairs (λ x y. x.0 < y.0) breaches
