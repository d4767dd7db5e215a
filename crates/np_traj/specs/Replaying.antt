-- What the replay of a script gives.
use Rattle.std.specs.Prelude.{◌≡◌, ℕ, ◌+◌, List, [], ◌∷◌, Option, Some, None}
use Rattle.np_net.specs.Plan.{Plan}
use Rattle.np_ipsec.specs.declared.places.Motion.{Motion}
use Rattle.np_ipsec.specs.Steps.{State, IsStep}
use Rattle.np_ipsec.specs.Trajectories.{IsTrajectory}
use Rattle.np_traj.specs.Refusals.{start_refusal, step_refusal}
use Rattle.np_traj.specs.States.{started}
use Rattle.np_script.specs.declared.script.Script.{Script}
use Rattle.np_traj.specs.declared.states.Illegal.{Illegal}

-- What comes of motions from a state, so many having been made before: the states after it, each joined to the one before by the step
-- of the next motion, until all are made, or one is refused, which is counted from 1.
abbrev pub AreMoved : Plan → ℕ → ℕ → State → List Motion → List State → Option (ℕ × Illegal) → Type 0
AreMoved net depth made s [] [] stop = stop ≡ None
AreMoved net depth made s [] (t ∷ states) stop = ⊥
AreMoved net depth made s (motion ∷ motions) [] stop = (why : Illegal) × (step_refusal net depth s motion ≡ Some why) × (stop ≡ Some (made + 1, why))
AreMoved net depth made s (motion ∷ motions) (t ∷ states) stop = IsStep net depth motion s t × AreMoved net depth (made + 1) t motions states stop

-- What comes of a start: that state, and what comes of the motions.
abbrev pub AreTravelled : Plan → ℕ → State → List Motion → List State → Option (ℕ × Illegal) → Type 0
AreTravelled net depth first motions [] stop = ⊥
AreTravelled net depth first motions (s ∷ states) stop = (s ≡ first) × AreMoved net depth 0 s motions states stop

-- What comes of a script: no states where its start is refused, which is counted as 0, and what comes of the start and the moves otherwise.
abbrev pub AreReplayed : Plan → ℕ → Script → List State → Option (ℕ × Illegal) → Type 0
AreReplayed net depth script [] stop = (why : Illegal) × (start_refusal net script.place script.plain ≡ Some why) × (stop ≡ Some (0, why))
AreReplayed net depth script (s ∷ states) stop = (start_refusal net script.place script.plain ≡ None) × AreTravelled net depth (started script.place script.plain) script.moves (s ∷ states) stop

-- the states are a trajectory, if there are any
abbrev pub AreTrajectory : Plan → ℕ → List State → Type 0
AreTrajectory net depth [] = Unit {0}
AreTrajectory net depth (s ∷ states) = IsTrajectory net depth s states
