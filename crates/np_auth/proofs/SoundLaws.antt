-- Where the local rules hold, each step keeps what makes a forged packet stay outside.
use Rattle.std.proofs.Common.{◌≡◌, ◌≢◌, ◌∙◌, ℕ, zero, suc, ◌<◌, Bool, true, false, ◌&&◌, List, [], ◌∷◌, ◌++◌, length, get_or, Option, Some, None, refl, sym, ap, subst, inl, inr, arith}
use Rattle.std.specs.Prelude.{◌⊎◌}
use Rattle.np_space.specs.Header.{IsValid}
use Rattle.np_pred.specs.Meaning.{pred_holds}
use Rattle.np_pred.specs.declared.predicate.Pred.{Pred}
use Rattle.np_net.specs.Network.{sa_at}
use Rattle.np_net.specs.Path.{area_of, device_of}
use Rattle.np_net.specs.Plan.{Plan}
use Rattle.np_net.specs.declared.associations.InAction.TheVariants as ins
use Rattle.np_net.specs.declared.associations.IpGoal.TheVariants as goals
use Rattle.np_stack.specs.HeaderStack.{top_of}
use Rattle.np_ipsec.specs.declared.places.Motion.{Motion}
use Rattle.np_ipsec.specs.declared.places.Motion.TheVariants as motions
use Rattle.np_ipsec.specs.declared.places.Place.{Place}
use Rattle.np_ipsec.specs.declared.places.Place.TheVariants as at
use Rattle.np_ipsec.specs.Steps.{State, IsPlace, IsStep, Enters, PopsByRule, PopsWithoutKey, Crosses, Pushes, Leaves, top_over, area_at, is_trusted_place}
use Rattle.np_ipsec.specs.Tables.{in_action_of, has_integrity, is_good, is_sound, is_trusted_device}
use Rattle.np_ipsec.specs.Trajectories.{AreJoined, IsSafe, IsStart}
use Rattle.np_ipsec.proofs.StepLaws.{steps_keep_plain}
use Rattle.np_auth.specs.Rules.{AuthRules, IsForgeable, RulesAreSound}

-- ---- what is kept

-- an interface of a place is one of the network
abbrev IsOfNetwork : Plan → Place → Type 0
IsOfNetwork net (at.AtArea a) = Unit {0}
IsOfNetwork net (at.AtIn i) = i < length net.interfaces
IsOfNetwork net (at.AtOut i) = i < length net.interfaces

-- a bare packet isn't at a trusted area or about to leave a trusted device, and where it came into one, then with a mark with which it must not pass
abbrev IsGuarded : Plan → Place → List ℕ → Option ℕ → Type 0
IsGuarded net (at.AtArea a) stack mark = stack ≡ [] → (area_at net a).trusted ≡ false
IsGuarded net (at.AtIn i) stack mark = stack ≡ [] → is_trusted_device net (device_of net.interfaces i) ≡ true → IsForgeable net i mark
IsGuarded net (at.AtOut i) stack mark = stack ≡ [] → is_trusted_device net (device_of net.interfaces i) ≡ false

-- an association under which a packet can be forged
record IsUnsound (net : Plan) (k : ℕ) : Type 0 where
  within : k < length net.sas
  unsound : is_sound net k ≡ false

-- the lowest association, if there is one, is such
abbrev IsForged : Plan → List ℕ → Type 0
IsForged net [] = Unit {0}
IsForged net (k ∷ stack) = IsUnsound net k

-- what holds of each state that a forged packet of the predicate comes to
record IsOutside (net : Plan) (pred : Pred) (s : State) : Type 0 where
  inside : IsOfNetwork net s.place
  valid : IsValid s.plain
  meant : pred_holds pred s.plain ≡ true
  guarded : IsGuarded net s.place s.stack s.mark
  forged : IsForged net s.stack

-- ---- stacks

-- nothing is pushed off
push_fills : (stack : List ℕ) (k : ℕ) → stack ++ k ∷ [] ≡ [] → ⊥
push_fills [] k none = cc
push_fills (n ∷ stack) k none = cc

-- the lowest association stays where another is removed above it
forged_below : (net : Plan) (rest : List ℕ) (k : ℕ) → IsForged net (rest ++ k ∷ []) → IsForged net rest
forged_below net [] k forged = tt
forged_below net (n ∷ rest) k forged = forged

-- it stays where another is pushed, and on an empty stack the pushed one is the lowest
forged_push : (net : Plan) (stack : List ℕ) (k : ℕ) → IsForged net stack → (stack ≡ [] → IsUnsound net k) → IsForged net (stack ++ k ∷ [])
forged_push net [] k forged first = first refl
forged_push net (n ∷ stack) k forged first = forged

-- the only association is the lowest
forged_alone : (net : Plan) (rest : List ℕ) (k : ℕ) → IsForged net (rest ++ k ∷ []) → rest ≡ [] → IsUnsound net k
forged_alone net [] k forged bare = forged
forged_alone net (n ∷ rest) k forged bare = absurd (cc)

-- ---- places

-- no place that isn't trusted asks for anything
guarded_outside : (net : Plan) (place : Place) (stack : List ℕ) (mark : Option ℕ) → is_trusted_place net place ≡ false → IsGuarded net place stack mark
guarded_outside net (at.AtArea a) stack mark untrusted = λ bare. untrusted
guarded_outside net (at.AtIn i) stack mark untrusted = λ bare trusted. absurd (cc)
guarded_outside net (at.AtOut i) stack mark untrusted = λ bare. untrusted

-- no place asks for anything where a packet isn't bare
guarded_under : (net : Plan) (place : Place) (stack : List ℕ) (mark : Option ℕ) → (stack ≡ [] → ⊥) → IsGuarded net place stack mark
guarded_under net (at.AtArea a) stack mark some = λ bare. absurd (some bare)
guarded_under net (at.AtIn i) stack mark some = λ bare trusted. absurd (some bare)
guarded_under net (at.AtOut i) stack mark some = λ bare. absurd (some bare)

-- a test that can't be passed isn't
not_true : (b : Bool) → (b ≡ true → ⊥) → b ≡ false
not_true true denied = absurd (denied refl)
not_true false denied = refl

-- without an end that is trusted, or without integrity, an association isn't sound
unsound_from : (good integral : Bool) → (good ≡ false) ⊎ (integral ≡ false) → (good && integral) ≡ false
unsound_from true integral (inl bad) = absurd (cc)
unsound_from true integral (inr bad) = bad
unsound_from false integral can = refl

-- ---- along a trajectory

-- what each step keeps holds of every state after the first
along : (P : State → Type 0) (net : Plan) (depth : ℕ) → ((motion : Motion) (s t : State) → IsStep net depth motion s t → P s → P t) → (s : State) (states : List State) (x : State) (n : ℕ) → n < length (s ∷ states) → get_or (s ∷ states) n x ≡ x → P s → AreJoined net depth s states → P x
along P net depth keeps s states x zero lt is holds joined = subst P is holds
along P net depth keeps s [] x (suc n) lt is holds joined = absurd (omega arith)
along P net depth keeps s (t ∷ states) x (suc n) lt is holds joined =
    along P net depth keeps t states x n (omega arith) is (keeps joined.0.0 s t joined.0.1 holds) joined.1

module _ (net : Plan) (from here : ℕ) (pred : Pred) (rules : AuthRules net from here pred) where
  -- ---- the start

  -- a packet of the predicate that starts elsewhere than at the area doesn't start at a trusted place
  starts_untrusted : (s : State) → IsStart net s → pred_holds pred s.plain ≡ true → s.place ≢ at.AtArea from → is_trusted_place net s.place ≡ false
  starts_untrusted s start meant forged = not_true (is_trusted_place net s.place) denied
    where
      denied : is_trusted_place net s.place ≡ true → ⊥
      denied trusted =
          let at_area = start.starts trusted in
          rules.sources at_area.0 s.plain (record {
            within = subst (IsPlace net) at_area.1 start.place;
            trusted = subst (λ place. is_trusted_place net place ≡ true) at_area.1 trusted;
            other = λ same. forged (at_area.1 ∙ ap at.AtArea same);
            valid = start.valid;
            meant = meant;
            source = at_area.2;
          })

  -- the interface of a place of the network is one of its own
  place_inside : (place : Place) → IsPlace net place → IsOfNetwork net place
  place_inside (at.AtArea a) within = tt
  place_inside (at.AtIn i) within = within
  place_inside (at.AtOut i) within = within

  -- what is kept holds there
  start_outside : (s : State) → IsStart net s → pred_holds pred s.plain ≡ true → s.place ≢ at.AtArea from → IsOutside net pred s
  start_outside s start meant forged = record {
    inside = place_inside s.place start.place;
    valid = start.valid;
    meant = meant;
    guarded = guarded_outside net s.place s.stack s.mark (starts_untrusted s start meant forged);
    forged = subst (IsForged net) (sym start.bare) tt;
  }

  module _ (s : State) (outside : IsOutside net pred s) where
    -- what is kept of a place, where the place is known
    guarded_at : (place : Place) → s.place ≡ place → IsGuarded net place s.stack s.mark
    guarded_at place is = subst (λ place. IsGuarded net place s.stack s.mark) is outside.guarded

    inside_at : (place : Place) → s.place ≡ place → IsOfNetwork net place
    inside_at place is = subst (IsOfNetwork net) is outside.inside

    -- ---- the steps

    -- no bare packet enters from a trusted area
    enters_outside : (i : ℕ) (t : State) → Enters net i s t → IsOutside net pred t
    enters_outside i t step =
        subst (IsOutside net pred) (sym step.to) (record {
          inside = step.within;
          valid = outside.valid;
          meant = outside.meant;
          guarded = λ bare trusted. guarded_at (at.AtArea (area_of net.interfaces i)) step.from bare;
          forged = outside.forged;
        })

    -- the last association that is removed by a rule is the lowest, so its mark lets no bare packet pass
    rule_outside : (t : State) → PopsByRule net s t → IsOutside net pred t
    rule_outside t step =
        let under : IsForged net (step.rest ++ step.k ∷ []) = subst (IsForged net) step.outermost outside.forged in
        let marked : IsGuarded net (at.AtIn step.i) step.rest (Some step.k) =
        λ bare trusted. (let alone = forged_alone net step.rest step.k under bare in (alone.within, step.rule, alone.unsound)) in
        subst (IsOutside net pred) (sym step.to) (record {
          inside = outside.inside;
          valid = outside.valid;
          meant = outside.meant;
          guarded = subst (λ place. IsGuarded net place step.rest (Some step.k)) (sym step.here) marked;
          forged = forged_below net step.rest step.k under;
        })

    -- whoever isn't trusted may make a packet bare
    free_outside : (t : State) → PopsWithoutKey net s t → IsOutside net pred t
    free_outside t step =
        subst (IsOutside net pred) (sym step.to) (record {
          inside = outside.inside;
          valid = outside.valid;
          meant = outside.meant;
          guarded = guarded_outside net s.place step.rest None step.untrusted;
          forged = forged_below net step.rest step.k (subst (IsForged net) step.outermost outside.forged);
        })

    -- no bare packet crosses a trusted device
    crosses_none : (j : ℕ) (t : State) (step : Crosses net j s t) → s.stack ≡ [] → is_trusted_device net (device_of net.interfaces step.i) ≡ true → ⊥
    crosses_none j t step bare trusted =
        let there : is_trusted_place net s.place ≡ true = subst (λ place. is_trusted_place net place ≡ true) (sym step.here) trusted in
        rules.discards step.i s.mark s.plain (record {
          within = inside_at (at.AtIn step.i) step.here;
          trusted = trusted;
          forgeable = guarded_at (at.AtIn step.i) step.here bare trusted;
          valid = outside.valid;
          meant = outside.meant;
          passes = subst (λ stack. in_action_of net step.i (top_over s.plain (top_of stack)) s.mark ≡ ins.Bypass) bare (step.admitted there);
        })

    crosses_outside : (j : ℕ) (t : State) → Crosses net j s t → IsOutside net pred t
    crosses_outside j t step =
        subst (IsOutside net pred) (sym step.to) (record {
          inside = step.within;
          valid = outside.valid;
          meant = outside.meant;
          guarded =
              λ bare. subst (λ device. is_trusted_device net device ≡ false) step.inside
              (not_true (is_trusted_device net (device_of net.interfaces step.i)) (crosses_none j t step bare));
          forged = outside.forged;
        })

    -- where a trusted device pushes, the packet isn't bare
    pushes_under : (depth k : ℕ) (t : State) → Pushes net depth k s t → is_trusted_place net s.place ≡ true → s.stack ≡ [] → ⊥
    pushes_under depth k t step trusted bare =
        let rule = step.by_rule trusted in
        let untrusted : is_trusted_place net (at.AtOut rule.0) ≡ false = guarded_at (at.AtOut rule.0) rule.1 bare in
        let there : is_trusted_place net (at.AtOut rule.0) ≡ true = subst (λ place. is_trusted_place net place ≡ true) rule.1 trusted in
        cc

    -- so what is pushed around a bare packet isn't sound
    pushes_unsound : (depth k : ℕ) (t : State) → Pushes net depth k s t → s.stack ≡ [] → IsUnsound net k
    pushes_unsound depth k t step bare =
        let untrusted = not_true (is_trusted_place net s.place) (λ trusted. pushes_under depth k t step trusted bare) in
        record {
          within = step.within;
          unsound = unsound_from (is_good net k) (has_integrity (sa_at net.sas k).kind) (step.without_key untrusted);
        }

    pushes_outside : (depth k : ℕ) (t : State) → Pushes net depth k s t → IsOutside net pred t
    pushes_outside depth k t step =
        subst (IsOutside net pred) (sym step.to) (record {
          inside = outside.inside;
          valid = outside.valid;
          meant = outside.meant;
          guarded = guarded_under net s.place (s.stack ++ k ∷ []) s.mark (push_fills s.stack k);
          forged = forged_push net s.stack k outside.forged (pushes_unsound depth k t step);
        })

    -- out of a device that isn't trusted, no packet comes to a trusted area
    leaves_none : (t : State) (step : Leaves net s t) → s.stack ≡ [] → (area_at net (area_of net.interfaces step.j)).trusted ≡ true → ⊥
    leaves_none t step bare trusted =
        rules.own step.j (record {
          within = inside_at (at.AtOut step.j) step.here;
          inside = trusted;
          foreign = guarded_at (at.AtOut step.j) step.here bare;
        })

    leaves_outside : (t : State) → Leaves net s t → IsOutside net pred t
    leaves_outside t step =
        subst (IsOutside net pred) (sym step.to) (record {
          inside = tt;
          valid = outside.valid;
          meant = outside.meant;
          guarded = λ bare. not_true ((area_at net (area_of net.interfaces step.j)).trusted) (leaves_none t step bare);
          forged = outside.forged;
        })

  -- every step keeps it
  steps_outside : (depth : ℕ) (motion : Motion) (s t : State) → IsStep net depth motion s t → IsOutside net pred s → IsOutside net pred t
  steps_outside depth (motions.Enter i) s t step outside = enters_outside s outside i t step
  steps_outside depth motions.Pop s t step outside = elim step [ inl rule ↦ rule_outside s outside t rule | inr free ↦ free_outside s outside t free ]
  steps_outside depth (motions.Cross j) s t step outside = crosses_outside s outside j t step
  steps_outside depth (motions.Push k) s t step outside = pushes_outside s outside depth k t step
  steps_outside depth motions.Leave s t step outside = leaves_outside s outside t step

  -- ---- the whole

  -- no state breaks the goal
  none_breaks : (depth : ℕ) → IsSafe net depth (goals.Auth from here pred)
  none_breaks depth first states trajectory s among breaks =
      let plain : s.plain ≡ first.plain =
      along (λ x. x.plain ≡ first.plain) net depth (λ motion s t step kept. steps_keep_plain net depth motion s t step ∙ kept) first states s among.0 among.1 among.2 refl trajectory.joined in
      let meant : pred_holds pred first.plain ≡ true = subst (λ h. pred_holds pred h ≡ true) plain breaks.meant in
      let outside : IsOutside net pred s =
      along (IsOutside net pred) net depth (steps_outside depth) first states s among.0 among.1 among.2 (start_outside first trajectory.start meant breaks.forged) trajectory.joined in
      let untrusted : (area_at net here).trusted ≡ false = guarded_at s outside (at.AtArea here) breaks.arrived breaks.bare in
      let trusted : (area_at net here).trusted ≡ true = rules.here_trusted in
      cc

-- the rules are sound
pub rules_are_sound : RulesAreSound
rules_are_sound net from here pred rules depth = none_breaks net from here pred rules depth
