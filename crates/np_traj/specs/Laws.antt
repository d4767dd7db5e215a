-- Laws of steps and their refusals, and of replays and their breaches.
use Rattle.std.specs.Prelude.{◌≡◌, ◌↔◌, ℕ, List, Option, None}
use Rattle.np_net.specs.Plan.{Plan}
use Rattle.np_ipsec.specs.declared.places.Motion.{Motion}
use Rattle.np_ipsec.specs.declared.places.Place.{Place}
use Rattle.np_ipsec.specs.Steps.{State, IsPlace, IsStep}
use Rattle.np_ipsec.specs.Trajectories.{IsStart}
use Rattle.np_space.specs.declared.headers.Header.{Header}
use Rattle.np_traj.specs.Breaching.{AreBreaches}
use Rattle.np_traj.specs.Refusals.{start_refusal, step_refusal}
use Rattle.np_traj.specs.Replaying.{AreReplayed}
use Rattle.np_traj.specs.declared.states.Illegal.{Illegal}
use Rattle.np_script.specs.Fitting.{Fits, IsMotion}
use Rattle.np_script.specs.declared.script.Script.{Script}
use Rattle.np_traj.specs.States.{started}

-- a motion of the network isn't refused exactly where there is a step
abbrev pub StepsAreUnrefused : Type 0
StepsAreUnrefused = (net : Plan) (depth : ℕ) (s : State) (motion : Motion) → IsMotion net motion → (step_refusal net depth s motion ≡ None) ↔ ((t : State) × IsStep net depth motion s t)

-- a motion leads from a state to one state at most
abbrev pub MotionsLeadToOneState : Type 0
MotionsLeadToOneState = (net : Plan) (depth : ℕ) (motion : Motion) (s t u : State) → IsStep net depth motion s t → IsStep net depth motion s u → t ≡ u

-- a start at a place of the network isn't refused exactly where it is one
abbrev pub StartsAreUnrefused : Type 0
StartsAreUnrefused = (net : Plan) (place : Place) (plain : Header) → IsPlace net place → (start_refusal net place plain ≡ None) ↔ IsStart net (started place plain)

-- what comes of a script
pub record Replay (net : Plan) (depth : ℕ) (script : Script) : Type 0 where
  pub states : List State
  pub stop : Option (ℕ × Illegal)
  pub replayed : AreReplayed net depth script states stop

-- a script that fits the network is replayed
abbrev pub ScriptsAreReplayed : Type 0
ScriptsAreReplayed = (net : Plan) (depth : ℕ) (script : Script) → Fits net script → Replay net depth script

-- in one way
pub record AreReplayedOnce (net : Plan) (depth : ℕ) (script : Script) : Type 0 where
  pub states : (states others : List State) (stop other : Option (ℕ × Illegal)) → AreReplayed net depth script states stop → AreReplayed net depth script others other → states ≡ others
  pub stop : (states others : List State) (stop other : Option (ℕ × Illegal)) → AreReplayed net depth script states stop → AreReplayed net depth script others other → stop ≡ other

-- the breaches of the first so many goals
pub record Breaches (net : Plan) (states : List State) (goals : ℕ) : Type 0 where
  pub breaches : List (ℕ × ℕ)
  pub are : AreBreaches net states goals breaches

-- the states of a replay have breaches
abbrev pub ReplaysHaveBreaches : Type 0
ReplaysHaveBreaches = (net : Plan) (depth : ℕ) (script : Script) (states : List State) (stop : Option (ℕ × Illegal)) (goals : ℕ) → AreReplayed net depth script states stop → Breaches net states goals

-- and no others
abbrev pub BreachesAreUnique : Type 0
BreachesAreUnique = (net : Plan) (states : List State) (goals : ℕ) (breaches others : List (ℕ × ℕ)) → AreBreaches net states goals breaches → AreBreaches net states goals others → breaches ≡ others
