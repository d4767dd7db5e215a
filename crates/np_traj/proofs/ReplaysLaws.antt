-- A script that fits a network is replayed, in one way.
use Rattle.std.proofs.Common.{◌≡◌, ℕ, ◌+◌, ◌≤◌, List, [], ◌∷◌, Option, Some, None, All, Ok, refl, sym, ◌∙◌, ap, subst}
use Rattle.std.specs.List.{AllByRecursion}
use Rattle.std.proofs.lemmas.List.Elements.{All-from_recursion, All-nil}
use Rattle.np_net.specs.Network.{IsNetwork}
use Rattle.np_net.specs.Plan.{Plan}
use Rattle.np_ipsec.specs.declared.places.Motion.{Motion}
use Rattle.np_ipsec.specs.Steps.{State, IsStep}
use Rattle.np_script.specs.declared.script.Script.{Script}
use Rattle.np_script.specs.Fitting.{Fits, IsMotion}
use Rattle.np_traj.specs.Judging.{judged}
use Rattle.np_traj.specs.Laws.{AreReplayedOnce, Replay}
use Rattle.np_traj.specs.Refusals.{start_refusal, step_refusal}
use Rattle.np_traj.specs.Replaying.{AreMoved, AreReplayed, AreTrajectory}
use Rattle.np_traj.specs.States.{IsStateOf, led_to, started}
use Rattle.np_traj.specs.declared.states.Illegal.{Illegal}
use Rattle.np_traj.proofs.MotionLaws.{moved_fits}
use Rattle.np_traj.proofs.ReplayLaws.{trajectory_from}
use Rattle.np_traj.proofs.StartLaws.{start_of_none, started_fits}
use Rattle.np_traj.proofs.StepLaws.{motions_lead_to_one_state, none_of_step, step_of_none, step_to}

-- ---- there is one

-- what comes of motions
record Moved (net : Plan) (depth made : ℕ) (s : State) (motions : List Motion) : Type 0 where
  states : List State
  stop : Option (ℕ × Illegal)
  moved : AreMoved net depth made s motions states stop

module _ (net : Plan) (depth : ℕ) where
  -- the next motion is refused, or made and the others follow
  next : (made : ℕ) (s : State) (motion : Motion) (motions : List Motion) → IsMotion net motion → Moved net depth (made + 1) (led_to net s motion) motions
      → (o : Option Illegal) → step_refusal net depth s motion ≡ o → Moved net depth made s (motion ∷ motions)
  next made s motion motions is later None none = record {
    states = led_to net s motion ∷ later.states;
    stop = later.stop;
    moved = (step_of_none net depth s motion is none, later.moved);
  }
  next made s motion motions is later (Some why) refused = record { states = []; stop = Some (made + 1, why); moved = (why, refused, refl) }

  come : (made : ℕ) (s : State) (motions : List Motion) → AllByRecursion (λ m. IsMotion net m) motions → Moved net depth made s motions
  come made s [] fit = record { states = []; stop = None; moved = refl }
  come made s (motion ∷ motions) fit =
      next made s motion motions fit.0 (come (made + 1) (led_to net s motion) motions fit.1) (step_refusal net depth s motion) refl

  module _ (script : Script) (fits : Fits net script) where
    judged_so : (o : Option Illegal) → start_refusal net script.place script.plain ≡ o → Replay net depth script
    judged_so None none =
        let come = come 0 (started script.place script.plain) script.moves fits.moves.each in
        record { states = started script.place script.plain ∷ come.states; stop = come.stop; replayed = (none, (refl, come.moved)) }
    judged_so (Some why) refused = record { states = []; stop = Some (0, why); replayed = (why, refused, refl) }

    -- a script has a replay
    pub a_replay : Replay net depth script
    a_replay = judged_so (start_refusal net script.place script.plain) refl

  -- ---- there is no other

  -- two reasons for one refusal
  same_why : (o : Option Illegal) (why other : Illegal) → o ≡ Some why → o ≡ Some other → why ≡ other
  same_why o why other is isnt = cc

  -- what is a step isn't refused
  unrefused : (s t : State) (motion : Motion) (why : Illegal) → IsStep net depth motion s t → step_refusal net depth s motion ≡ Some why → ⊥
  unrefused s t motion why step refused = let none = none_of_step net depth s motion t step in cc

  one_come : (made : ℕ) (s : State) (motions : List Motion) (states : List State) (stop : Option (ℕ × Illegal)) (others : List State) (other : Option (ℕ × Illegal))
      → AreMoved net depth made s motions states stop → AreMoved net depth made s motions others other → (states ≡ others) × (stop ≡ other)
  one_come made s [] [] stop [] other a b = (refl, a ∙ sym b)
  one_come made s [] [] stop (u ∷ others) other a b = absurd b
  one_come made s [] (t ∷ states) stop others other a b = absurd a
  one_come made s (motion ∷ motions) [] stop [] other a b =
      (refl, a.2 ∙ ap (λ why. Some (made + 1, why)) (same_why (step_refusal net depth s motion) a.0 b.0 a.1 b.1) ∙ sym b.2)
  one_come made s (motion ∷ motions) [] stop (u ∷ others) other a b = absurd (unrefused s u motion a.0 b.0 a.1)
  one_come made s (motion ∷ motions) (t ∷ states) stop [] other a b = absurd (unrefused s t motion b.0 a.0 b.1)
  one_come made s (motion ∷ motions) (t ∷ states) stop (u ∷ others) other a b =
      let here : t ≡ u = motions_lead_to_one_state net depth motion s t u a.0 b.0 in
      let from_t : AreMoved net depth (made + 1) t motions others other = subst (λ v. AreMoved net depth (made + 1) v motions others other) (sym here) b.1 in
      let rest = one_come (made + 1) t motions states stop others other a.1 from_t in
      ((λ i. here i ∷ rest.0 i), rest.1)

  -- a script has no other replay
  pub one_replay : (script : Script) (states : List State) (stop : Option (ℕ × Illegal)) (others : List State) (other : Option (ℕ × Illegal))
      → AreReplayed net depth script states stop → AreReplayed net depth script others other → (states ≡ others) × (stop ≡ other)
  one_replay script [] stop [] other a b = (refl, a.2 ∙ ap (λ why. Some (0, why)) (same_why (start_refusal net script.place script.plain) a.0 b.0 a.1 b.1) ∙ sym b.2)
  one_replay script [] stop (u ∷ others) other a b = let refused = a.1 in let none = b.0 in cc
  one_replay script (t ∷ states) stop [] other a b = let refused = b.1 in let none = a.0 in cc
  one_replay script (t ∷ states) stop (u ∷ others) other a b =
      let here : t ≡ u = a.1.0 ∙ sym b.1.0 in
      let from_t : AreMoved net depth 0 t script.moves others other = subst (λ v. AreMoved net depth 0 v script.moves others other) (sym here) b.1.1 in
      let rest = one_come 0 t script.moves states stop others other a.1.1 from_t in
      ((λ i. here i ∷ rest.0 i), rest.1)

  pub replayed_once : (script : Script) → AreReplayedOnce net depth script
  replayed_once script = record {
    states = λ states others stop other a b. (one_replay script states stop others other a b).0;
    stop = λ states others stop other a b. (one_replay script states stop others other a b).1;
  }

  -- ---- its states

  module _ (script : Script) (fits : Fits net script) where
    -- they are a trajectory, at every larger depth too
    pub replay_goes_deeper : (states : List State) (stop : Option (ℕ × Illegal)) → AreReplayed net depth script states stop → (more : ℕ) → depth ≤ more → AreTrajectory net more states
    replay_goes_deeper [] stop replayed more le = tt
    replay_goes_deeper (s ∷ states) stop replayed more le =
        trajectory_from net depth (started script.place script.plain) script.moves (s ∷ states) stop
        (start_of_none net script.place script.plain fits.place replayed.0) replayed.1 more le

    module _ (network : IsNetwork net) where
      -- where a step leads is of the network
      stepped : (s t : State) (motion : Motion) → IsMotion net motion → IsStateOf net s → IsStep net depth motion s t → IsStateOf net t
      stepped s t motion is of step =
          let exact : judged (step_refusal net depth s motion) tt ≡ Ok tt = ap (λ o. judged o tt) (none_of_step net depth s motion t step) in
          moved_fits net network s of depth motion t (Ok tt) is (sym exact) (step_to net depth s motion t step) tt

      moved_of : (made : ℕ) (s : State) (motions : List Motion) (states : List State) (stop : Option (ℕ × Illegal)) → AllByRecursion (λ m. IsMotion net m) motions → IsStateOf net s
          → AreMoved net depth made s motions states stop → AllByRecursion (λ t. IsStateOf net t) states
      moved_of made s motions [] stop fit of moved = tt
      moved_of made s [] (t ∷ states) stop fit of moved = absurd moved
      moved_of made s (motion ∷ motions) (t ∷ states) stop fit of moved =
          let here = stepped s t motion fit.0 of moved.0 in
          (here, moved_of (made + 1) t motions states stop fit.1 here moved.1)

      -- they name what the network has
      pub replay_of : (states : List State) (stop : Option (ℕ × Illegal)) → AreReplayed net depth script states stop → All (λ s. IsStateOf net s) states
      replay_of [] stop replayed = All-nil (λ s. IsStateOf net s)
      replay_of (s ∷ states) stop replayed =
          let here : IsStateOf net s = subst (λ t. IsStateOf net t) (sym replayed.1.0) (started_fits net script.place script.plain fits.place) in
          All-from_recursion (λ t. IsStateOf net t) (s ∷ states) (here, moved_of 0 s script.moves states stop fits.moves.each here replayed.1.1)
