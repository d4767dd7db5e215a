-- A motion is refused exactly where it is no step, and leads to one state.
use Rattle.std.proofs.Common.{◌≡◌, ◌↔◌, ◌⊎◌, ℕ, ◌<◌, ◌==◌, ◌&&◌, Bool, true, false, List, [], ◌∷◌, ◌++◌, length, Option, Some, None, if◌then◌else◌, nat_lt, inl, inr, refl, sym, ◌∙◌, ap, subst}
use Rattle.std.proofs.lemmas.Bool.{eq-eqb, eqb-true, lt-ltb, ltb-true}
use Rattle.np_net.specs.Path.{area_of, device_of}
use Rattle.np_net.specs.Plan.{Plan}
use Rattle.np_net.specs.declared.associations.InAction.{InAction}
use Rattle.np_net.specs.declared.associations.InAction.TheVariants as ins
use Rattle.np_net.specs.declared.associations.OutAction.{OutAction}
use Rattle.np_net.specs.declared.associations.OutAction.TheVariants as outs
use Rattle.np_net.specs.Network.{sa_at}
use Rattle.np_stack.specs.HeaderStack.{top_of}
use Rattle.np_stack.proofs.Tops.{top_of-push}
use Rattle.np_ipsec.specs.declared.places.Motion.{Motion}
use Rattle.np_ipsec.specs.declared.places.Motion.TheVariants as motions
use Rattle.np_ipsec.specs.declared.places.Place.{Place}
use Rattle.np_ipsec.specs.declared.places.Place.TheVariants as at
use Rattle.np_ipsec.specs.Steps.{State, IsStep, Enters, PopsByRule, PopsWithoutKey, NoPopFits, Crosses, Pushes, Leaves, is_trusted_place, top_in}
use Rattle.np_ipsec.specs.Tables.{has_pop, in_action_of, out_action_of, is_good, is_secret, is_sound, has_integrity, has_secrecy}
use Rattle.np_traj.specs.Refusals.{is_at_area, enter_refusal, pop_by_rule_refusal, trusted_pop_refusal, untrusted_pop_refusal, pop_refusal, is_to_pop, is_discard, trusted_cross_refusal, cross_between_refusal, cross_from_refusal, cross_refusal, is_protect, trusted_push_refusal, untrusted_push_refusal, unentitled_push_refusal, push_refusal, is_bypass, leave_by_refusal, leave_from_refusal, leave_refusal, step_refusal}
use Rattle.np_script.specs.Fitting.{IsMotion}
use Rattle.np_traj.specs.States.{led_to, mark_after_pop, under}
use Rattle.np_traj.proofs.RefusalLaws.{both_none, neither, no_reason, unrefused}
use Rattle.np_traj.proofs.StackLaws.{under-push, under-top}

-- ---- tests

-- one of two tests fails where they don't both hold
one_fails : (a b : Bool) → (a && b) ≡ false → (a ≡ false) ⊎ (b ≡ false)
one_fails true b fails = inr fails
one_fails false b fails = inl refl

-- and the other way round
not_both : (a b : Bool) → (a ≡ false) ⊎ (b ≡ false) → (a && b) ≡ false
not_both false b fails = refl
not_both true b (inl fails) = cc
not_both true b (inr fails) = fails

at_area : (p : Place) (a : ℕ) → is_at_area p a ≡ true → p ≡ at.AtArea a
at_area (at.AtArea b) a is = ap at.AtArea (eqb-true b a is)
at_area (at.AtIn i) a is = cc
at_area (at.AtOut i) a is = cc

not_discard : (action : InAction) → is_discard action ≡ false → action ≡ ins.Bypass
not_discard ins.Bypass is = refl
not_discard ins.Discard is = cc

protects : (action : OutAction) (k : ℕ) → is_protect action k ≡ true → action ≡ outs.Protect k
protects (outs.Protect l) k is = ap outs.Protect (eqb-true l k is)
protects outs.Bypass k is = cc
protects outs.Discard k is = cc

bypasses : (action : OutAction) → is_bypass action ≡ true → action ≡ outs.Bypass
bypasses (outs.Protect l) is = cc
bypasses outs.Bypass is = refl
bypasses outs.Discard is = cc

-- the choice that isn't taken doesn't matter
chosen_true : {X : Type 0} (test : Bool) (x y z : X) → (if test then x else y) ≡ z → test ≡ true → x ≡ z
chosen_true true x y z is holds = is
chosen_true false x y z is holds = cc

chosen_false : {X : Type 0} (test : Bool) (x y z : X) → (if test then x else y) ≡ z → test ≡ false → y ≡ z
chosen_false true x y z is fails = cc
chosen_false false x y z is fails = is

choose : {X : Type 0} (test : Bool) (x y z : X) → (test ≡ true → x ≡ z) → (test ≡ false → y ≡ z) → (if test then x else y) ≡ z
choose true x y z holds fails = holds refl
choose false x y z holds fails = fails refl

module _ (net : Plan) (s : State) where
  -- ---- into a device

  enter_taken : (i : ℕ) → i < length net.interfaces → enter_refusal net s i ≡ None → Enters net i s (led_to net s (motions.Enter i))
  enter_taken i within none = record {
    within = within;
    from = at_area s.place (area_of net.interfaces i) (unrefused _ _ none);
    to = refl;
  }

  enter_open : (i : ℕ) (t : State) → Enters net i s t → enter_refusal net s i ≡ None
  enter_open i t step = rw (step.from, eq-eqb (area_of net.interfaces i) (area_of net.interfaces i) refl) refl

  -- ---- a header is removed

  -- a trusted place that doesn't refuse is an inward interface with a pop rule for the top
  rule_for_top : (i : ℕ) (top : Option ℕ) → pop_by_rule_refusal net i top ≡ None → (k : ℕ) × (top ≡ Some k) × (has_pop net i k ≡ true)
  rule_for_top i None none = cc
  rule_for_top i (Some k) none = (k, refl, unrefused (has_pop net i k) _ none)

  inward : (p : Place) (top : Option ℕ) → trusted_pop_refusal net p top ≡ None → (i : ℕ) × (p ≡ at.AtIn i) × (pop_by_rule_refusal net i top ≡ None)
  inward (at.AtArea a) top none = cc
  inward (at.AtIn i) top none = (i, refl, none)
  inward (at.AtOut i) top none = cc

  -- whoever isn't trusted isn't refused a top that hides nothing from him
  free_top : (top : Option ℕ) → untrusted_pop_refusal net top ≡ None → (k : ℕ) × (top ≡ Some k) × (is_secret net k ≡ false)
  free_top None none = cc
  free_top (Some k) none = (k, refl, no_reason (is_secret net k) _ none)

  -- the state after a pop with this mark
  unwrapped : Option ℕ → State
  unwrapped mark = record { place = s.place; plain = s.plain; stack = under s.stack; mark = mark }

  pops_by_rule : is_trusted_place net s.place ≡ true → trusted_pop_refusal net s.place (top_of s.stack) ≡ None → PopsByRule net s (unwrapped (top_of s.stack))
  unfolding unwrapped
  pops_by_rule is none =
      let from = inward s.place (top_of s.stack) none in
      let rule = rule_for_top from.0 (top_of s.stack) from.2 in
      record {
        trusted = is;
        i = from.0;
        here = from.1;
        k = rule.0;
        rest = under s.stack;
        outermost = under-top s.stack rule.0 rule.1;
        rule = rule.2;
        to = ap unwrapped rule.1;
      }

  pops_without_key : is_trusted_place net s.place ≡ false → untrusted_pop_refusal net (top_of s.stack) ≡ None → PopsWithoutKey net s (unwrapped None)
  unfolding unwrapped
  pops_without_key is none =
      let free = free_top (top_of s.stack) none in
      record {
        untrusted = is;
        k = free.0;
        rest = under s.stack;
        outermost = under-top s.stack free.0 free.1;
        can = one_fails (is_good net free.0) (has_secrecy (sa_at net.sas free.0).kind) free.2;
        to = refl;
      }

  pop_taken : pop_refusal net s ≡ None → PopsByRule net s (led_to net s motions.Pop) ⊎ PopsWithoutKey net s (led_to net s motions.Pop)
  unfolding unwrapped
  pop_taken none = by (is_trusted_place net s.place) refl none
    where
      by : (trusted : Bool) → is_trusted_place net s.place ≡ trusted → (if trusted then trusted_pop_refusal net s.place (top_of s.stack) else untrusted_pop_refusal net (top_of s.stack)) ≡ None
          → PopsByRule net s (unwrapped (mark_after_pop trusted (top_of s.stack))) ⊎ PopsWithoutKey net s (unwrapped (mark_after_pop trusted (top_of s.stack)))
      by true is none = inl (pops_by_rule is none)
      by false is none = inr (pops_without_key is none)

  -- what is outermost is the top
  top_is : (k : ℕ) (rest : List ℕ) → s.stack ≡ rest ++ k ∷ [] → top_of s.stack ≡ Some k
  top_is k rest outermost = ap (λ (l : List ℕ). top_of l) outermost ∙ top_of-push rest k

  -- and the rest is under it
  rest_is : (k : ℕ) (rest : List ℕ) → s.stack ≡ rest ++ k ∷ [] → under s.stack ≡ rest
  rest_is k rest outermost = ap under outermost ∙ under-push rest k

  rule_open : (i k : ℕ) (p : Place) (top : Option ℕ) → p ≡ at.AtIn i → top ≡ Some k → has_pop net i k ≡ true → trusted_pop_refusal net p top ≡ None
  rule_open i k p top here is rule = rw (here, is, rule) refl

  free_open : (k : ℕ) (top : Option ℕ) → top ≡ Some k → is_secret net k ≡ false → untrusted_pop_refusal net top ≡ None
  free_open k top is free = rw (is, free) refl

  pop_open : (t : State) → PopsByRule net s t ⊎ PopsWithoutKey net s t → pop_refusal net s ≡ None
  pop_open t (inl rule) =
      choose (is_trusted_place net s.place) _ _ None
      (λ _. rule_open rule.i rule.k s.place (top_of s.stack) rule.here (top_is rule.k rule.rest rule.outermost) rule.rule)
      (λ untrusted. let trusted = rule.trusted in cc)
  pop_open t (inr free) =
      choose (is_trusted_place net s.place) _ _ None
      (λ trusted. let untrusted = free.untrusted in cc)
      (λ _. free_open free.k (top_of s.stack) (top_is free.k free.rest free.outermost) (not_both (is_good net free.k) (has_secrecy (sa_at net.sas free.k).kind) free.can))

  same_pop : (trusted : Bool) (top mark : Option ℕ) (rest : List ℕ) → under s.stack ≡ rest → mark_after_pop trusted top ≡ mark
      → ◌≡◌ {A = State} (record { place = s.place; plain = s.plain; stack = rest; mark = mark }) (record { place = s.place; plain = s.plain; stack = under s.stack; mark = mark_after_pop trusted top })
  same_pop trusted top mark rest under_is mark_is = rw (under_is, mark_is) refl

  pop_to : (t : State) → PopsByRule net s t ⊎ PopsWithoutKey net s t → t ≡ led_to net s motions.Pop
  pop_to t (inl rule) =
      rule.to ∙ same_pop (is_trusted_place net s.place) (top_of s.stack) (Some rule.k) rule.rest (rest_is rule.k rule.rest rule.outermost)
      (ap (λ trusted. mark_after_pop trusted (top_of s.stack)) rule.trusted ∙ top_is rule.k rule.rest rule.outermost)
  pop_to t (inr free) =
      free.to ∙ same_pop (is_trusted_place net s.place) (top_of s.stack) None free.rest (rest_is free.k free.rest free.outermost)
      (ap (λ trusted. mark_after_pop trusted (top_of s.stack)) free.untrusted)

  -- ---- through a device

  not_to_pop : (i k : ℕ) (rest : List ℕ) → is_to_pop net i (top_of s.stack) ≡ false → s.stack ≡ rest ++ k ∷ [] → has_pop net i k ≡ false
  not_to_pop i k rest none outermost = subst (λ top. is_to_pop net i top ≡ false) (top_is k rest outermost) none

  crosses : (i j : ℕ) → s.place ≡ at.AtIn i → j < length net.interfaces → cross_between_refusal net s i j ≡ None → Crosses net j s (led_to net s (motions.Cross j))
  crosses i j here within none =
      let both = neither _ _ none in
      let inner : is_trusted_place net s.place ≡ true → trusted_cross_refusal net s i ≡ None = chosen_true (is_trusted_place net s.place) (trusted_cross_refusal net s i) None None both.1 in
      record {
        within = within;
        i = i;
        here = here;
        inside = eqb-true (device_of net.interfaces i) (device_of net.interfaces j) (unrefused _ _ both.0);
        popped = λ trusted k rest outermost. not_to_pop i k rest (no_reason _ _ (neither _ _ (inner trusted)).0) outermost;
        admitted = λ trusted. not_discard (in_action_of net i (top_in s) s.mark) (no_reason _ _ (neither _ _ (inner trusted)).1);
        to = refl;
      }

  cross_taken : (j : ℕ) → j < length net.interfaces → cross_refusal net s j ≡ None → Crosses net j s (led_to net s (motions.Cross j))
  cross_taken j within none = by s.place refl none
    where
      by : (p : Place) → s.place ≡ p → cross_from_refusal net s p j ≡ None → Crosses net j s (led_to net s (motions.Cross j))
      by (at.AtArea a) here none = cc
      by (at.AtIn i) here none = crosses i j here within none
      by (at.AtOut i) here none = cc

  nothing_to_pop : (i : ℕ) → NoPopFits net i s.stack → (top : Option ℕ) → top_of s.stack ≡ top → is_to_pop net i top ≡ false
  nothing_to_pop i fits None is = refl
  nothing_to_pop i fits (Some k) is = fits k (under s.stack) (under-top s.stack k is)

  inner_open : (i : ℕ) → is_to_pop net i (top_of s.stack) ≡ false → in_action_of net i (top_in s) s.mark ≡ ins.Bypass → trusted_cross_refusal net s i ≡ None
  inner_open i none admitted = rw (none, admitted) refl

  between_open : (i j : ℕ) → (device_of net.interfaces i == device_of net.interfaces j) ≡ true → (if is_trusted_place net s.place then trusted_cross_refusal net s i else None) ≡ None → cross_between_refusal net s i j ≡ None
  between_open i j same none = rw same none

  cross_open : (j : ℕ) (t : State) → Crosses net j s t → cross_refusal net s j ≡ None
  cross_open j t step =
      subst (λ p. cross_from_refusal net s p j ≡ None) (sym step.here)
      (between_open step.i j (eq-eqb _ _ step.inside)
      (choose (is_trusted_place net s.place) _ _ None
      (λ trusted. inner_open step.i (nothing_to_pop step.i (step.popped trusted) (top_of s.stack) refl) (step.admitted trusted))
      (λ _. refl)))

  -- ---- a header is put around it

  outward : (k : ℕ) (p : Place) → trusted_push_refusal net s p k ≡ None → (j : ℕ) × (p ≡ at.AtOut j) × (out_action_of net j (top_in s) ≡ outs.Protect k)
  outward k (at.AtArea a) none = cc
  outward k (at.AtIn i) none = cc
  outward k (at.AtOut j) none = (j, refl, protects (out_action_of net j (top_in s)) k (unrefused _ _ none))

  push_taken : (depth k : ℕ) → k < length net.sas → push_refusal net depth s k ≡ None → Pushes net depth k s (led_to net s (motions.Push k))
  push_taken depth k within none =
      let both = neither _ _ none in
      record {
        within = within;
        room = ltb-true (length s.stack) depth (unrefused _ _ both.1);
        by_rule = λ trusted. outward k s.place (chosen_true (is_trusted_place net s.place) _ _ None both.0 trusted);
        without_key = λ untrusted. one_fails (is_good net k) (has_integrity (sa_at net.sas k).kind) (no_reason _ _ (chosen_false (is_trusted_place net s.place) _ _ None both.0 untrusted));
        to = refl;
      }

  entitled : (k j : ℕ) (p : Place) → p ≡ at.AtOut j → out_action_of net j (top_in s) ≡ outs.Protect k → trusted_push_refusal net s p k ≡ None
  entitled k j p here rule = rw (here, rule, eq-eqb k k refl) refl

  keyless : (k : ℕ) → is_sound net k ≡ false → untrusted_push_refusal net k ≡ None
  keyless k free = rw free refl

  unentitled_open : (k : ℕ) → (is_trusted_place net s.place ≡ true → trusted_push_refusal net s s.place k ≡ None) → (is_trusted_place net s.place ≡ false → untrusted_push_refusal net k ≡ None) → unentitled_push_refusal net s k ≡ None
  unentitled_open k by_rule free = choose (is_trusted_place net s.place) _ _ None by_rule free

  with_room : (depth k : ℕ) → unentitled_push_refusal net s k ≡ None → nat_lt (length s.stack) depth ≡ true → push_refusal net depth s k ≡ None
  with_room depth k none room = both_none _ _ none (rw room refl)

  push_open : (depth k : ℕ) (t : State) → Pushes net depth k s t → push_refusal net depth s k ≡ None
  push_open depth k t step =
      with_room depth k
      (unentitled_open k
      (λ trusted. let rule = step.by_rule trusted in entitled k rule.0 s.place rule.1 rule.2)
      (λ untrusted. keyless k (not_both (is_good net k) (has_integrity (sa_at net.sas k).kind) (step.without_key untrusted))))
      (lt-ltb (length s.stack) depth step.room)

  -- ---- out of a device

  leaves : (j : ℕ) → s.place ≡ at.AtOut j → leave_by_refusal net s j ≡ None → Leaves net s (led_to net s motions.Leave)
  leaves j here none = record {
    j = j;
    here = here;
    admitted = λ trusted. bypasses (out_action_of net j (top_in s)) (unrefused _ _ (chosen_true (is_trusted_place net s.place) _ _ None none trusted));
    to = rw here refl;
  }

  leave_taken : leave_refusal net s ≡ None → Leaves net s (led_to net s motions.Leave)
  leave_taken none = by s.place refl none
    where
      by : (p : Place) → s.place ≡ p → leave_from_refusal net s p ≡ None → Leaves net s (led_to net s motions.Leave)
      by (at.AtArea a) here none = cc
      by (at.AtIn i) here none = cc
      by (at.AtOut j) here none = leaves j here none

  leave_open : (t : State) → Leaves net s t → leave_refusal net s ≡ None
  leave_open t step =
      subst (λ p. leave_from_refusal net s p ≡ None) (sym step.here)
      (choose (is_trusted_place net s.place) _ _ None (λ trusted. rw (step.admitted trusted) refl) (λ _. refl))

  leave_to : (t : State) → Leaves net s t → t ≡ led_to net s motions.Leave
  leave_to t step = step.to ∙ (rw step.here refl)

-- ---- all motions

-- what isn't refused is a step
pub step_of_none : (net : Plan) (depth : ℕ) (s : State) (motion : Motion) → IsMotion net motion → step_refusal net depth s motion ≡ None → IsStep net depth motion s (led_to net s motion)
step_of_none net depth s (motions.Enter i) is none = enter_taken net s i is none
step_of_none net depth s motions.Pop is none = pop_taken net s none
step_of_none net depth s (motions.Cross j) is none = cross_taken net s j is none
step_of_none net depth s (motions.Push k) is none = push_taken net s depth k is none
step_of_none net depth s motions.Leave is none = leave_taken net s none

-- a step isn't refused
pub none_of_step : (net : Plan) (depth : ℕ) (s : State) (motion : Motion) (t : State) → IsStep net depth motion s t → step_refusal net depth s motion ≡ None
none_of_step net depth s (motions.Enter i) t step = enter_open net s i t step
none_of_step net depth s motions.Pop t step = pop_open net s t step
none_of_step net depth s (motions.Cross j) t step = cross_open net s j t step
none_of_step net depth s (motions.Push k) t step = push_open net s depth k t step
none_of_step net depth s motions.Leave t step = leave_open net s t step

-- a step leads where its motion does
pub step_to : (net : Plan) (depth : ℕ) (s : State) (motion : Motion) (t : State) → IsStep net depth motion s t → t ≡ led_to net s motion
step_to net depth s (motions.Enter i) t step = step.to
step_to net depth s motions.Pop t step = pop_to net s t step
step_to net depth s (motions.Cross j) t step = step.to
step_to net depth s (motions.Push k) t step = step.to
step_to net depth s motions.Leave t step = leave_to net s t step

-- a motion of the network isn't refused exactly where there is a step
pub steps_are_unrefused : (net : Plan) (depth : ℕ) (s : State) (motion : Motion) → IsMotion net motion → (step_refusal net depth s motion ≡ None) ↔ ((t : State) × IsStep net depth motion s t)
steps_are_unrefused net depth s motion is =
    ((λ none. (led_to net s motion, step_of_none net depth s motion is none)), (λ step. none_of_step net depth s motion step.0 step.1))

-- a motion leads from a state to one state at most
pub motions_lead_to_one_state : (net : Plan) (depth : ℕ) (motion : Motion) (s t u : State) → IsStep net depth motion s t → IsStep net depth motion s u → t ≡ u
motions_lead_to_one_state net depth motion s t u to_t to_u = step_to net depth s motion t to_t ∙ sym (step_to net depth s motion u to_u)
