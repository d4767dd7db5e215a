-- What `trace` writes of a network and a script.
use Rattle.std.specs.Prelude.{◌≡◌, ℕ, ◌≤◌, List, [], ◌∷◌, length, slice_get, Contains, Option, Some, None}
use Rattle.np_ipsec.specs.Steps.{State}
use Rattle.np_net.specs.Plan.{Plan}
use Rattle.np_script.specs.declared.script.Script.{Script}
use Rattle.np_traj.specs.Breaching.{AreBreaches}
use Rattle.np_traj.specs.Replaying.{AreReplayed, AreTrajectory}
use Rattle.np_traj.specs.declared.states.Illegal.{Illegal}
use Rattle.np_ipsec_report.specs.Replays.{replay_text}
use Rattle.np_net.specs.declared.associations.IpGoal.{IpGoal}
use Rattle.np_top.specs.Ipsec.{RulesHold}
use Rattle.np_top.specs.declared.status.Status.{Status}
use Rattle.np_top.specs.declared.status.Status.TheVariants.{Holds, Fails}

-- the status that goes with a replay: 0 where all moves are legal and no goal is broken
abbrev pub replay_status : Option (ℕ × Illegal) → List (ℕ × ℕ) → Status
replay_status None [] = Holds
replay_status None (breach ∷ breaches) = Fails
replay_status (Some stop) breaches = Fails

-- The report on the replay of a script, at the network's depth: the longest legal prefix, what stops it, and the goals that its states break.
pub record IsTraceReport (net : Plan) (script : Script) (text : List ℕ) (status : Status) : Type 0 where
  pub states : List State
  pub stop : Option (ℕ × Illegal)
  pub breaches : List (ℕ × ℕ)
  pub replayed : AreReplayed net net.depth script states stop
  pub breached : AreBreaches net states (length net.ipgoals) breaches
  pub text_is : text ≡ replay_text net states stop breaches
  pub status_is : status ≡ replay_status stop breaches

-- The text is that of states that are a trajectory of the network's depth, and of every larger one, or of none; and of breaches of which none
-- is of a goal whose local rules hold.
pub record IsTrajectoryText (net : Plan) (text : List ℕ) : Type 0 where
  pub states : List State
  pub stop : Option (ℕ × Illegal)
  pub breaches : List (ℕ × ℕ)
  pub trajectory : (depth : ℕ) → net.depth ≤ depth → AreTrajectory net depth states
  pub unbroken : (g n : ℕ) (goal : IpGoal) → Contains breaches (g, n) → slice_get net.ipgoals g ≡ Some goal → RulesHold net goal → ⊥
  pub text_is : text ≡ replay_text net states stop breaches
