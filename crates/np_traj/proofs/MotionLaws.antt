-- What a motion does that is judged.
use Rattle.std.proofs.Common.{◌≡◌, ℕ, ◌<◌, ◌≤◌, Bool, true, false, length, All, Option, Some, None, IfSome, Result, Ok, Err, OnOk, OnErr, sym, subst}
use Rattle.std.proofs.lemmas.List.Elements.{All-push}
use Rattle.np_net.specs.Network.{IsNetwork}
use Rattle.np_net.specs.Plan.{Plan}
use Rattle.np_stack.specs.HeaderStack.{top_of}
use Rattle.np_ipsec.proofs.DepthLaws.{steps_of_more_depth}
use Rattle.np_ipsec.proofs.StepLaws.{steps_stay_inside}
use Rattle.np_ipsec.specs.declared.places.Motion.{Motion}
use Rattle.np_ipsec.specs.declared.places.Motion.TheVariants as motions
use Rattle.np_ipsec.specs.Steps.{State, IsStep, is_trusted_place}
use Rattle.np_traj.specs.Judging.{judged}
use Rattle.np_traj.specs.Refusals.{step_refusal}
use Rattle.np_script.specs.Fitting.{IsMotion}
use Rattle.np_traj.specs.States.{IsStateOf, led_to, mark_after_pop}
use Rattle.np_traj.specs.declared.states.Illegal.{Illegal}
use Rattle.np_traj.proofs.StackLaws.{top-holds, under-holds}
use Rattle.np_traj.proofs.StepLaws.{none_of_step, step_of_none}

-- what was let through wasn't refused
let_through : {X : Type 0} (o : Option Illegal) (x y : X) → Ok x ≡ judged o y → o ≡ None
let_through None x y is = cc
let_through (Some why) x y is = cc

-- and what was refused, was
held_back : {X : Type 0} (o : Option Illegal) (why : Illegal) (x y : X) → (let r : Result X Illegal = Err why in r ≡ judged o y) → o ≡ None → ⊥
held_back None why x y wrong none = cc
held_back (Some other) why x y wrong none = cc

module _ (net : Plan) (depth : ℕ) (s t : State) (motion : Motion) (is : IsMotion net motion) where
  -- a motion that is let through is a step
  pub taken : (result : Result (Unit {0}) Illegal) → result ≡ judged (step_refusal net depth s motion) tt → OnOk result (t ≡ led_to net s motion) → OnOk result (IsStep net depth motion s t)
  taken (Ok x) exact there =
      subst (λ u. IsStep net depth motion s u) (sym there) (step_of_none net depth s motion is (let_through (step_refusal net depth s motion) x tt exact))
  taken (Err why) exact there = tt

  -- at every larger depth too
  pub taken_deeper : (result : Result (Unit {0}) Illegal) → result ≡ judged (step_refusal net depth s motion) tt → OnOk result (t ≡ led_to net s motion)
      → OnOk result ((more : ℕ) → depth ≤ more → IsStep net more motion s t)
  taken_deeper (Ok x) exact there = λ more le. steps_of_more_depth net depth more motion s t le (taken (Ok x) exact there)
  taken_deeper (Err why) exact there = tt

-- where it is refused there is no step
pub refused : (net : Plan) (depth : ℕ) (s : State) (motion : Motion) (result : Result (Unit {0}) Illegal) → result ≡ judged (step_refusal net depth s motion) tt → OnErr result ((u : State) → IsStep net depth motion s u → ⊥)
refused net depth s motion (Ok x) exact = tt
refused net depth s motion (Err why) exact = λ u step. held_back (step_refusal net depth s motion) why tt tt exact (none_of_step net depth s motion u step)

-- ---- what is of the network

-- the mark that a pop leaves
marks : (P : ℕ → Type 0) (trusted : Bool) (top : Option ℕ) → IfSome top P → IfSome (mark_after_pop trusted top) P
marks P true top holds = holds
marks P false top holds = tt

module _ (net : Plan) (network : IsNetwork net) (s : State) (of : IsStateOf net s) where
  -- where a motion leads is of the network
  stack_fits : (motion : Motion) → IsMotion net motion → All (λ k. k < length net.sas) (led_to net s motion).stack
  stack_fits (motions.Enter i) is = of.stack
  stack_fits motions.Pop is = under-holds (λ k. k < length net.sas) s.stack of.stack
  stack_fits (motions.Cross j) is = of.stack
  stack_fits (motions.Push k) is = All-push (λ l. l < length net.sas) s.stack k of.stack is
  stack_fits motions.Leave is = of.stack

  mark_fits : (motion : Motion) → IfSome (led_to net s motion).mark (λ k. k < length net.sas)
  mark_fits (motions.Enter i) = tt
  mark_fits motions.Pop = marks (λ k. k < length net.sas) (is_trusted_place net s.place) (top_of s.stack) (top-holds (λ k. k < length net.sas) s.stack of.stack)
  mark_fits (motions.Cross j) = tt
  mark_fits (motions.Push k) = of.mark
  mark_fits motions.Leave = of.mark

  led_fits : (depth : ℕ) (motion : Motion) → IsMotion net motion → IsStep net depth motion s (led_to net s motion) → IsStateOf net (led_to net s motion)
  led_fits depth motion is step = record {
    place = steps_stay_inside net network depth motion s (led_to net s motion) of.place step;
    stack = stack_fits motion is;
    mark = mark_fits motion;
  }

  -- a packet stays of the network, whether it moves or not
  pub moved_fits : (depth : ℕ) (motion : Motion) (t : State) (result : Result (Unit {0}) Illegal) → IsMotion net motion → result ≡ judged (step_refusal net depth s motion) tt
      → OnOk result (t ≡ led_to net s motion) → OnErr result (t ≡ s) → IsStateOf net t
  moved_fits depth motion t (Ok x) is exact there stays =
      subst (λ u. IsStateOf net u) (sym there) (led_fits depth motion is (step_of_none net depth s motion is (let_through (step_refusal net depth s motion) x tt exact)))
  moved_fits depth motion t (Err why) is exact there stays = subst (λ u. IsStateOf net u) (sym stays) of
