-- The moves of a script, one after another.
use Rattle.std.proofs.Common.{◌≡◌, ℕ, ◌+◌, ◌<◌, ◌≤◌, List, [], ◌∷◌, ◌++◌, length, get_or, drop, Option, Some, None, Result, Err, refl, sym, subst, add-one, append_assoc, append-nil, drop-cons}
use Rattle.std.proofs.lemmas.List.{drop_all}
use Rattle.std.proofs.lemmas.List.Elements.{All-push}
use Rattle.np_net.specs.Plan.{Plan}
use Rattle.np_ipsec.specs.declared.places.Motion.{Motion}
use Rattle.np_ipsec.specs.Steps.{State, IsStep}
use Rattle.np_traj.specs.Judging.{judged}
use Rattle.np_traj.specs.Refusals.{step_refusal}
use Rattle.np_traj.specs.Replaying.{AreMoved, AreTravelled}
use Rattle.np_traj.specs.States.{IsStateOf}
use Rattle.np_traj.specs.Travelling.{AreTravelledSoFar}
use Rattle.np_traj.specs.declared.states.Illegal.{Illegal}

-- why something was refused
why_refused : {X : Type 0} (o : Option Illegal) (why : Illegal) (x : X) → (let r : Result X Illegal = Err why in r ≡ judged o x) → o ≡ Some why
why_refused None why x is = cc
why_refused (Some other) why x is = cc

module _ (net : Plan) (depth : ℕ) (first : State) (motions : List Motion) (made : ℕ) (states : List State) (last : State) (so_far : AreTravelledSoFar net depth first motions made states last) where
  -- what comes of the rest, if nothing does
  nothing_more : (stop : Option (ℕ × Illegal)) → AreMoved net depth made last (drop made motions) [] stop → AreTravelled net depth first motions states stop
  nothing_more stop moved = subst (λ l. AreTravelled net depth first motions l stop) (append-nil states) (so_far.rest [] stop moved)

  -- the motions that are left
  left : (d : Motion) → made < length motions → drop made motions ≡ get_or motions made d ∷ drop (made + 1) motions
  left d more = rw add-one (drop-cons motions made d more)

  -- the next motion is refused
  pub stopped : (d : Motion) (why : Illegal) → made < length motions → (let r : Result (Unit {0}) Illegal = Err why in r ≡ judged (step_refusal net depth last (get_or motions made d)) tt) → AreTravelled net depth first motions states (Some (made + 1, why))
  stopped d why more refused =
      nothing_more (Some (made + 1, why)) (subst (λ l. AreMoved net depth made last l [] (Some (made + 1, why))) (sym (left d more)) (why, why_refused _ why tt refused, refl))

  -- all motions are made
  pub ended : length motions ≤ made → AreTravelled net depth first motions states None
  ended all = nothing_more None (subst (λ l. AreMoved net depth made last l [] None) (sym (drop_all made motions all)) refl)

  -- one more motion is made
  pub one_more : (d : Motion) (t : State) → made < length motions → IsStep net depth (get_or motions made d) last t → IsStateOf net t → AreTravelledSoFar net depth first motions (made + 1) (states ++ t ∷ []) t
  one_more d t more step fits = record {
    rest = λ later stop moved.
        subst (λ l. AreTravelled net depth first motions l stop) (sym (append_assoc states (t ∷ []) later))
        (so_far.rest (t ∷ later) stop (subst (λ l. AreMoved net depth made last l (t ∷ later) stop) (sym (left d more)) (step, moved)));
    each = All-push (λ s. IsStateOf net s) states t so_far.each fits;
    last_fits = fits;
  }
