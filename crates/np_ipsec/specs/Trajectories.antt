-- Trajectories of packets, and what breaks an IPsec goal.
use Rattle.std.specs.Prelude.{◌≡◌, ◌≢◌, ℕ, true, false, List, [], ◌∷◌, Contains, None}
use Rattle.np_space.specs.Header.{IsValid}
use Rattle.np_pred.specs.Meaning.{pred_holds}
use Rattle.np_pred.specs.declared.predicate.Pred.{Pred}
use Rattle.np_net.specs.Plan.{Plan}
use Rattle.np_net.specs.declared.associations.IpGoal.{IpGoal}
use Rattle.np_net.specs.declared.associations.IpGoal.TheVariants as goals
use Rattle.np_ipsec.specs.declared.places.Place.TheVariants as at
use Rattle.np_ipsec.specs.declared.places.Motion.{Motion}
use Rattle.np_ipsec.specs.Steps.{State, IsPlace, IsStep, area_has, is_trusted_place}
use Rattle.np_ipsec.specs.Tables.{is_secret}

-- where a packet may start: from a trusted area with a source that the area has, or with any header at a place that isn't trusted
abbrev pub StartsAt : Plan → State → Type 0
StartsAt net s = (is_trusted_place net s.place ≡ true → (a : ℕ) × (s.place ≡ at.AtArea a) × (area_has net a s.plain ≡ true))

-- a state in which a packet starts
pub record IsStart (net : Plan) (s : State) : Type 0 where
  pub place : IsPlace net s.place
  pub valid : IsValid s.plain
  pub starts : StartsAt net s
  pub bare : s.stack ≡ []
  pub unmarked : s.mark ≡ None

-- each of the states is joined to the one before it by a step, the first one to this state
abbrev pub AreJoined : Plan → ℕ → State → List State → Type 0
AreJoined net depth s [] = Unit {0}
AreJoined net depth s (t ∷ states) = ((motion : Motion) × IsStep net depth motion s t) × AreJoined net depth t states

-- a trajectory of this depth: a start, and the states after it
pub record IsTrajectory (net : Plan) (depth : ℕ) (first : State) (states : List State) : Type 0 where
  pub start : IsStart net first
  pub joined : AreJoined net depth first states

-- ---- goals

-- a state of a trajectory that starts so breaks an authentication goal: a bare packet of the predicate is at the area, and doesn't come from the other one
pub record BreaksAuth (from here : ℕ) (pred : Pred) (first s : State) : Type 0 where
  pub arrived : s.place ≡ at.AtArea here
  pub bare : s.stack ≡ []
  pub meant : pred_holds pred s.plain ≡ true
  pub forged : first.place ≢ at.AtArea from

-- it breaks a confidentiality goal: a packet of the predicate from the area is at a place that isn't trusted, and nothing around it hides it
pub record BreaksConf (net : Plan) (from : ℕ) (pred : Pred) (first s : State) : Type 0 where
  pub begun : first.place ≡ at.AtArea from
  pub meant : pred_holds pred s.plain ≡ true
  pub exposed : is_trusted_place net s.place ≡ false
  pub seen : (k : ℕ) → Contains s.stack k → is_secret net k ≡ false

-- it breaks a goal
abbrev pub BreaksGoal : Plan → IpGoal → State → State → Type 0
BreaksGoal net (goals.Auth from here pred) first s = BreaksAuth from here pred first s
BreaksGoal net (goals.Conf from pred) first s = BreaksConf net from pred first s

-- no state of any trajectory of this depth breaks the goal
abbrev pub IsSafe : Plan → ℕ → IpGoal → Type 0
IsSafe net depth goal = (first : State) (states : List State) → IsTrajectory net depth first states → (s : State) → Contains (first ∷ states) s → BreaksGoal net goal first s → ⊥
