-- What is replayed is a trajectory of one packet.
use Rattle.std.proofs.Common.{◌≡◌, ℕ, ◌+◌, ◌<◌, ◌≤◌, List, [], ◌∷◌, length, Option, None, refl, sym, ◌∙◌, subst, arith}
use Rattle.std.proofs.lemmas.List.Elements.{All-from_recursion}
use Rattle.std.specs.List.{AllByRecursion}
use Rattle.np_space.specs.declared.headers.Header.{Header}
use Rattle.np_net.specs.Plan.{Plan}
use Rattle.np_ipsec.proofs.DepthLaws.{trajectories_of_more_depth}
use Rattle.np_ipsec.proofs.StepLaws.{steps_keep_plain}
use Rattle.np_ipsec.specs.declared.places.Motion.{Motion}
use Rattle.np_ipsec.specs.Steps.{State}
use Rattle.np_ipsec.specs.Trajectories.{AreJoined, IsStart}
use Rattle.np_traj.specs.Refusals.{start_refusal}
use Rattle.np_traj.specs.Replaying.{AreMoved, AreReplayed, AreTrajectory, AreTravelled}
use Rattle.np_traj.specs.Sighting.{HavePlainOfFirst}
use Rattle.np_traj.specs.States.{started}
use Rattle.np_script.specs.declared.script.Script.{Script}
use Rattle.np_traj.specs.declared.states.Illegal.{Illegal}

module _ (net : Plan) (depth : ℕ) where
  -- states that come of motions are joined by steps
  joined : (made : ℕ) (s : State) (motions : List Motion) (states : List State) (stop : Option (ℕ × Illegal)) → AreMoved net depth made s motions states stop → AreJoined net depth s states
  joined made s motions [] stop moved = tt
  joined made s [] (t ∷ states) stop moved = absurd moved
  joined made s (motion ∷ motions) (t ∷ states) stop moved = ((motion, moved.0), joined (made + 1) t motions states stop moved.1)

  -- and have one plain header
  same_plain : (h : Header) (made : ℕ) (s : State) (motions : List Motion) (states : List State) (stop : Option (ℕ × Illegal)) → s.plain ≡ h → AreMoved net depth made s motions states stop → AllByRecursion (λ t. t.plain ≡ h) states
  same_plain h made s motions [] stop is moved = tt
  same_plain h made s [] (t ∷ states) stop is moved = absurd moved
  same_plain h made s (motion ∷ motions) (t ∷ states) stop is moved =
      let here : t.plain ≡ h = steps_keep_plain net depth motion s t moved.0 ∙ is in
      (here, same_plain h (made + 1) t motions states stop here moved.1)

  module _ (first : State) (motions : List Motion) where
    -- a start is a state
    pub some_states : (states : List State) (stop : Option (ℕ × Illegal)) → AreTravelled net depth first motions states stop → 0 < length states
    some_states [] stop travelled = absurd travelled
    some_states (s ∷ states) stop travelled = omega arith

    -- all have the plain header of the start
    pub plain_stays : (states : List State) (stop : Option (ℕ × Illegal)) → AreTravelled net depth first motions states stop → HavePlainOfFirst states
    plain_stays [] stop travelled = absurd travelled
    plain_stays (s ∷ states) stop travelled = All-from_recursion (λ t. t.plain ≡ s.plain) (s ∷ states) (refl, same_plain s.plain 0 s motions states stop refl travelled.1)

    -- they are a trajectory, at every larger depth too
    pub trajectory_from : (states : List State) (stop : Option (ℕ × Illegal)) → IsStart net first → AreTravelled net depth first motions states stop → (more : ℕ) → depth ≤ more → AreTrajectory net more states
    trajectory_from [] stop start travelled more le = absurd travelled
    trajectory_from (s ∷ states) stop start travelled more le =
        trajectories_of_more_depth net depth more s states le record { start = subst (λ t. IsStart net t) (sym travelled.0) start; joined = joined 0 s motions states stop travelled.1 }

  -- what comes of a start that isn't refused comes of the script
  pub replayed_from : (script : Script) (first : State) (states : List State) (stop : Option (ℕ × Illegal)) → start_refusal net script.place script.plain ≡ None → first ≡ started script.place script.plain
      → AreTravelled net depth first script.moves states stop → AreReplayed net depth script states stop
  replayed_from script first [] stop none is travelled = absurd travelled
  replayed_from script first (s ∷ states) stop none is travelled = (none, (travelled.0 ∙ is, travelled.1))
