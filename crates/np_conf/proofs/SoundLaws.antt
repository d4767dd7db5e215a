-- The local rules of a confidentiality goal are sound: an induction over the states of a trajectory.
use Rattle.std.proofs.Common.{◌≡◌, ◌∙◌, ℕ, ◌<◌, ◌&&◌, Bool, true, false, List, [], ◌∷◌, ◌++◌, length, Some, inl, inr, refl, sym, ap, subst, arith, append_assoc}
use Rattle.std.specs.Prelude.{◌⊎◌}
use Rattle.std.specs.List.{Contains}
use Rattle.std.proofs.lemmas.List.{append_cancel_right}
use Rattle.std.proofs.lemmas.List.Elements.{Contains-push, Contains-push_cases, Contains-append_left, Contains-append_right, Contains-append_cases}
use Rattle.np_space.specs.declared.headers.Header.{Header}
use Rattle.np_pred.specs.Meaning.{pred_holds}
use Rattle.np_pred.specs.declared.predicate.Pred.{Pred}
use Rattle.np_net.specs.Network.{sa_at}
use Rattle.np_net.specs.Path.{area_of, device_of}
use Rattle.np_net.specs.Plan.{Plan}
use Rattle.np_net.specs.declared.associations.OutAction.TheVariants as outs
use Rattle.np_stack.specs.HeaderStack.{top_of}
use Rattle.np_stack.proofs.Tops.{top_of-push}
use Rattle.np_ipsec.specs.declared.places.Place.{Place}
use Rattle.np_ipsec.specs.declared.places.Place.TheVariants as at
use Rattle.np_ipsec.specs.declared.places.Motion.{Motion}
use Rattle.np_ipsec.specs.declared.places.Motion.TheVariants as motions
use Rattle.np_ipsec.specs.declared.tables.Top.TheVariants as tops
use Rattle.np_ipsec.specs.Steps.{State, IsStep, Enters, PopsByRule, PopsWithoutKey, Crosses, Pushes, Leaves, area_at, area_has, is_trusted_place, top_over}
use Rattle.np_ipsec.specs.Tables.{out_action_of, is_trusted_device, is_good, is_secret, has_secrecy}
use Rattle.np_ipsec.proofs.StepLaws.{steps_keep_plain}
use Rattle.np_ipsec.specs.Trajectories.{AreJoined, BreaksConf}
use Rattle.np_conf.specs.Rules.{ConfRules, RulesAreSound, IsOwn, IsTrustedInterface, IsReadable, IsWayOut}

-- ---- lists by their ends

-- a list with something last
record HasLast (xs : List ℕ) : Type 0 where
  rest : List ℕ
  last : ℕ
  parts : xs ≡ rest ++ last ∷ []

-- each list but the empty one is such
last_of : (x : ℕ) (xs : List ℕ) → HasLast (x ∷ xs)
last_of x [] = record { rest = []; last = x; parts = refl }
last_of x (y ∷ ys) = let l = last_of y ys in record { rest = x ∷ l.rest; last = l.last; parts = ap (λ zs. x ∷ zs) l.parts }

-- equal lists have the same last item and the same rest
same_parts : (xs ys : List ℕ) (x y : ℕ) → xs ++ x ∷ [] ≡ ys ++ y ∷ [] → (xs ≡ ys) × (x ≡ y)
same_parts xs ys x y e =
    let tops : Some x ≡ Some y = sym (top_of-push xs x) ∙ ap top_of e ∙ top_of-push ys y in
    let same : x ≡ y = cc in
    (append_cancel_right xs ys (y ∷ []) (subst (λ z. xs ++ z ∷ [] ≡ ys ++ y ∷ []) same e), same)

-- the last item of a list is in it
last_in : (xs rest : List ℕ) (k : ℕ) → xs ≡ rest ++ k ∷ [] → Contains xs k
last_in xs rest k parts = subst (λ l. Contains l k) (sym parts) (Contains-push rest k)

-- a state of a list is its first or a later one
first_or_later : (s : State) (states : List State) (t : State) → Contains (s ∷ states) t → (s ≡ t) ⊎ Contains states t
first_or_later s states t c = elim (Contains-append_cases (s ∷ []) states t c) [ inl first ↦ only (Contains-push_cases [] s t first) | inr later ↦ inr later ]
  where
    only : Contains [] t ⊎ (s ≡ t) → (s ≡ t) ⊎ Contains states t
    only (inl c) = absurd (let none : c.0 < 0 = c.1 in omega arith)
    only (inr e) = inl e

-- the plain header of a state
abbrev plain_of : State → Header
plain_of s = s.plain

-- places of equal areas alone are equal
same_area : (a b : ℕ) → at.AtArea a ≡ at.AtArea b → a ≡ b
same_area a b e = cc

-- ---- what the rules say of one place

-- what isn't secret isn't secret
not_both : (good hides : Bool) → (good ≡ false) ⊎ (hides ≡ false) → (good && hides) ≡ true → ⊥
not_both true true (inl e) both = cc
not_both true true (inr e) both = cc
not_both true false can both = cc
not_both false hides can both = cc

-- a place inside a device is at an interface of the network
abbrev IsWithin : Plan → Place → Type 0
IsWithin net (at.AtArea a) = Unit {0}
IsWithin net (at.AtIn i) = i < length net.interfaces
IsWithin net (at.AtOut i) = i < length net.interfaces

module _ (net : Plan) (from : ℕ) (pred : Pred) where
  -- an own packet may be readable under each of these
  abbrev AreReadable : List ℕ → Type 0
  AreReadable stack = (k : ℕ) → Contains stack k → IsReadable net from pred k

  -- nothing hides the packet: it may be readable under all that is around it, and its place is trusted
  record IsBare (place : Place) (stack : List ℕ) : Type 0 where
    trusted : is_trusted_place net place ≡ true
    all : AreReadable stack

  -- something hides it: below the lowest association that does, it may be readable under all
  record IsHidden (stack : List ℕ) : Type 0 where
    low : List ℕ
    k : ℕ
    high : List ℕ
    parts : stack ≡ low ++ k ∷ high
    secret : is_secret net k ≡ true
    below : AreReadable low

-- what holds of each state of the trajectory
record Keeps (net : Plan) (from : ℕ) (pred : Pred) (h : Header) (s : State) : Type 0 where
  plain : s.plain ≡ h
  within : IsWithin net s.place
  covered : IsBare net from pred s.place s.stack ⊎ IsHidden net from pred s.stack

module _ (net : Plan) (from : ℕ) (pred : Pred) (h : Header) (own : IsOwn net from pred h) where
  -- ---- what a trusted device does with a packet that nothing hides

  -- with one association more that doesn't hide it, the packet may be readable
  around_readable : (stack : List ℕ) (j k : ℕ) → AreReadable net from pred stack → IsTrustedInterface net j → out_action_of net j (top_over h (top_of stack)) ≡ outs.Protect k → is_secret net k ≡ false → IsReadable net from pred k
  around_readable [] j k all here protects plain =
      record { rest = []; put = record { open_to_all = plain; i = j; at = here; h = h; own = own; protects = protects } }
  around_readable (x ∷ xs) j k all here protects plain =
      let l = last_of x xs in
      let top : top_of (x ∷ xs) ≡ Some l.last = ap top_of l.parts ∙ top_of-push l.rest l.last in
      let under : out_action_of net j (tops.Under l.last) ≡ outs.Protect k = subst (λ o. out_action_of net j (top_over h o) ≡ outs.Protect k) top protects in
      let before = all l.last (last_in (x ∷ xs) l.rest l.last l.parts) in
      record { rest = l.last ∷ before.rest; put = (record { open_to_all = plain; i = j; at = here; protects = under }, before.put) }

  -- so it may be under all that is around it then
  all_readable : (stack : List ℕ) (k : ℕ) → AreReadable net from pred stack → IsReadable net from pred k → AreReadable net from pred (stack ++ k ∷ [])
  all_readable stack k all last n c = elim (Contains-push_cases stack k n c) [
    | inl before ↦ all n before
    | inr e ↦ subst (IsReadable net from pred) e last
  ]

  -- it isn't let out where the area isn't trusted
  not_let_out : (stack : List ℕ) (j : ℕ) → ConfRules net from pred → AreReadable net from pred stack → IsWayOut net j → out_action_of net j (top_over h (top_of stack)) ≡ outs.Bypass → ⊥
  not_let_out [] j rules all way passes = rules.bare j h record { way = way; own = own; passes = passes }
  not_let_out (x ∷ xs) j rules all way passes =
      let l = last_of x xs in
      let top : top_of (x ∷ xs) ≡ Some l.last = ap top_of l.parts ∙ top_of-push l.rest l.last in
      let under : out_action_of net j (tops.Under l.last) ≡ outs.Bypass = subst (λ o. out_action_of net j (top_over h o) ≡ outs.Bypass) top passes in
      rules.under j l.last record { way = way; readable = all l.last (last_in (x ∷ xs) l.rest l.last l.parts); passes = under }

-- ---- what a change of the stack keeps

module _ (net : Plan) (from : ℕ) (pred : Pred) where
  -- what is hidden stays so under one association more
  still_hidden : (stack : List ℕ) (k : ℕ) → IsHidden net from pred stack → IsHidden net from pred (stack ++ k ∷ [])
  still_hidden stack k hidden = record {
    low = hidden.low;
    k = hidden.k;
    high = hidden.high ++ k ∷ [];
    parts = ap (λ l. l ++ k ∷ []) hidden.parts ∙ append_assoc hidden.low (hidden.k ∷ hidden.high) (k ∷ []);
    secret = hidden.secret;
    below = hidden.below;
  }

  -- one that is secret hides what was readable
  newly_hidden : (stack : List ℕ) (k : ℕ) → AreReadable net from pred stack → is_secret net k ≡ true → IsHidden net from pred (stack ++ k ∷ [])
  newly_hidden stack k all secret = record { low = stack; k = k; high = []; parts = refl; secret = secret; below = all }

  -- what was readable is so without the outermost
  still_readable : (stack rest : List ℕ) (k : ℕ) → stack ≡ rest ++ k ∷ [] → AreReadable net from pred stack → AreReadable net from pred rest
  still_readable stack rest k parts all n c = all n (subst (λ l. Contains l n) (sym parts) (Contains-append_left rest (k ∷ []) n c))

  -- the outermost association was the one that hides, and all below may be readable
  record WasLast (rest : List ℕ) (k : ℕ) : Type 0 where
    secret : is_secret net k ≡ true
    all : AreReadable net from pred rest

  -- without the outermost, what was hidden is so still, or the outermost hid it
  popped_parts : (low high rest : List ℕ) (n k : ℕ) → low ++ n ∷ high ≡ rest ++ k ∷ [] → is_secret net n ≡ true → AreReadable net from pred low → IsHidden net from pred rest ⊎ WasLast rest k
  popped_parts low [] rest n k parts secret below =
      let same = same_parts low rest n k parts in
      inr record { secret = subst (λ m. is_secret net m ≡ true) same.1 secret; all = subst (AreReadable net from pred) same.0 below }
  popped_parts low (x ∷ xs) rest n k parts secret below =
      let l = last_of x xs in
      let whole : (low ++ n ∷ l.rest) ++ l.last ∷ [] ≡ rest ++ k ∷ [] =
      append_assoc low (n ∷ l.rest) (l.last ∷ []) ∙ ap (λ ys. low ++ n ∷ ys) (sym l.parts) ∙ parts in
      let same = same_parts (low ++ n ∷ l.rest) rest l.last k whole in
      inl record { low = low; k = n; high = l.rest; parts = sym same.0; secret = secret; below = below }

  popped : (stack rest : List ℕ) (k : ℕ) → stack ≡ rest ++ k ∷ [] → IsHidden net from pred stack → IsHidden net from pred rest ⊎ WasLast rest k
  popped stack rest k parts hidden = popped_parts hidden.low hidden.high rest hidden.k k (sym hidden.parts ∙ parts) hidden.secret hidden.below

module _ (net : Plan) (from : ℕ) (pred : Pred) (h : Header) (own : IsOwn net from pred h) (rules : ConfRules net from pred) where
  -- ---- the start

  -- a trajectory starts bare at the trusted area
  start_keeps : (s : State) → s.place ≡ at.AtArea from → s.plain ≡ h → s.stack ≡ [] → Keeps net from pred h s
  start_keeps s here plain bare = record {
    plain = plain;
    within = subst (IsWithin net) (sym here) tt;
    covered = inl record {
      trusted = subst (λ p. is_trusted_place net p ≡ true) (sym here) rules.from_trusted;
      all = subst (AreReadable net from pred) (sym bare) (λ k c. absurd (let none : c.0 < 0 = c.1 in omega arith));
    };
  }

  -- ---- the steps

  -- an interface on a trusted area is of a trusted device
  own_device : (i : ℕ) → i < length net.interfaces → (area_at net (area_of net.interfaces i)).trusted ≡ true → is_trusted_device net (device_of net.interfaces i) ≡ true
  own_device i lt inside = by (is_trusted_device net (device_of net.interfaces i)) (λ e. rules.own i record { within = lt; inside = inside; foreign = e })
    where
      by : (b : Bool) → (b ≡ false → ⊥) → b ≡ true
      by true never = refl
      by false never = absurd (never refl)

  -- into a device
  enters_keep : (i : ℕ) (s t : State) → Keeps net from pred h s → Enters net i s t → Keeps net from pred h t
  enters_keep i s t keeps step = subst (Keeps net from pred h) (sym step.to) record {
    plain = keeps.plain;
    within = step.within;
    covered = elim keeps.covered [
      | inl bare ↦ inl record {
        trusted = own_device i step.within (subst (λ p. is_trusted_place net p ≡ true) step.from bare.trusted);
        all = bare.all;
      }
      | inr hidden ↦ inr hidden
    ];
  }

  -- a trusted device removes a header by its rule
  pops_by_rule_keep : (s t : State) → Keeps net from pred h s → PopsByRule net s t → Keeps net from pred h t
  pops_by_rule_keep s t keeps step = subst (Keeps net from pred h) (sym step.to) record {
    plain = keeps.plain;
    within = keeps.within;
    covered = elim keeps.covered [
      | inl bare ↦ inl record { trusted = step.trusted; all = still_readable net from pred s.stack step.rest step.k step.outermost bare.all }
      | inr hidden ↦ elim (popped net from pred s.stack step.rest step.k step.outermost hidden) [
        | inl still ↦ inr still
        | inr last ↦ inl record { trusted = step.trusted; all = last.all }
      ]
    ];
  }

  -- whoever isn't trusted removes a header that doesn't hide: there something below it does
  pops_without_key_keep : (s t : State) → Keeps net from pred h s → PopsWithoutKey net s t → Keeps net from pred h t
  pops_without_key_keep s t keeps step = subst (Keeps net from pred h) (sym step.to) record {
    plain = keeps.plain;
    within = keeps.within;
    covered = elim keeps.covered [
      | inl bare ↦ absurd (let both : true ≡ false = sym bare.trusted ∙ step.untrusted in cc)
      | inr hidden ↦ elim (popped net from pred s.stack step.rest step.k step.outermost hidden) [
        | inl still ↦ inr still
        | inr last ↦ absurd (not_both (is_good net step.k) (has_secrecy (sa_at net.sas step.k).kind) step.can last.secret)
      ]
    ];
  }

  -- through a device
  crosses_keep : (j : ℕ) (s t : State) → Keeps net from pred h s → Crosses net j s t → Keeps net from pred h t
  crosses_keep j s t keeps step = subst (Keeps net from pred h) (sym step.to) record {
    plain = keeps.plain;
    within = step.within;
    covered = elim keeps.covered [
      | inl bare ↦ inl record {
        trusted =
            let here : is_trusted_device net (device_of net.interfaces step.i) ≡ true = subst (λ p. is_trusted_place net p ≡ true) step.here bare.trusted in
            subst (λ d. is_trusted_device net d ≡ true) step.inside here;
        all = bare.all;
      }
      | inr hidden ↦ inr hidden
    ];
  }

  -- a header is put around what a trusted device has, and nothing hides so far
  protects_keep : (depth k : ℕ) (s t : State) → Keeps net from pred h s → IsBare net from pred s.place s.stack → Pushes net depth k s t → IsBare net from pred s.place (s.stack ++ k ∷ []) ⊎ IsHidden net from pred (s.stack ++ k ∷ [])
  protects_keep depth k s t keeps bare step = by (is_secret net k) (λ e. e) (λ e. e)
    where
      rule : (j : ℕ) × (s.place ≡ at.AtOut j) × (out_action_of net j (top_over s.plain (top_of s.stack)) ≡ outs.Protect k)
      rule = step.by_rule bare.trusted

      here : IsTrustedInterface net rule.0
      here = record { within = subst (IsWithin net) rule.1 keeps.within; trusted = subst (λ p. is_trusted_place net p ≡ true) rule.1 bare.trusted }

      protects : out_action_of net rule.0 (top_over h (top_of s.stack)) ≡ outs.Protect k
      protects = subst (λ p. out_action_of net rule.0 (top_over p (top_of s.stack)) ≡ outs.Protect k) keeps.plain rule.2

      by : (b : Bool) → (b ≡ true → is_secret net k ≡ true) → (b ≡ false → is_secret net k ≡ false) → IsBare net from pred s.place (s.stack ++ k ∷ []) ⊎ IsHidden net from pred (s.stack ++ k ∷ [])
      by true secret plain = inr (newly_hidden net from pred s.stack k bare.all (secret refl))
      by false secret plain = inl record {
        trusted = bare.trusted;
        all = all_readable net from pred h own s.stack k bare.all (around_readable net from pred h own s.stack rule.0 k bare.all here protects (plain refl));
      }

  -- a header is put around it
  pushes_keep : (depth k : ℕ) (s t : State) → Keeps net from pred h s → Pushes net depth k s t → Keeps net from pred h t
  pushes_keep depth k s t keeps step = subst (Keeps net from pred h) (sym step.to) record {
    plain = keeps.plain;
    within = keeps.within;
    covered = elim keeps.covered [
      | inl bare ↦ protects_keep depth k s t keeps bare step
      | inr hidden ↦ inr (still_hidden net from pred s.stack k hidden)
    ];
  }

  -- what nothing hides is let out to trusted areas alone
  leaves_trusted : (s t : State) → Keeps net from pred h s → IsBare net from pred s.place s.stack → (step : Leaves net s t) → (area_at net (area_of net.interfaces step.j)).trusted ≡ true
  leaves_trusted s t keeps bare step = by (area_at net (area_of net.interfaces step.j)).trusted (λ outside.
      not_let_out net from pred h own s.stack step.j rules bare.all (way outside) passes)
    where
      passes : out_action_of net step.j (top_over h (top_of s.stack)) ≡ outs.Bypass
      passes = subst (λ p. out_action_of net step.j (top_over p (top_of s.stack)) ≡ outs.Bypass) keeps.plain (step.admitted bare.trusted)

      way : (area_at net (area_of net.interfaces step.j)).trusted ≡ false → IsWayOut net step.j
      way outside = record {
        at = record { within = subst (IsWithin net) step.here keeps.within; trusted = subst (λ p. is_trusted_place net p ≡ true) step.here bare.trusted };
        outside = outside;
      }

      by : (b : Bool) → (b ≡ false → ⊥) → b ≡ true
      by true never = refl
      by false never = absurd (never refl)

  -- out of a device
  leaves_keep : (s t : State) → Keeps net from pred h s → Leaves net s t → Keeps net from pred h t
  leaves_keep s t keeps step = subst (Keeps net from pred h) (sym step.to) record {
    plain = keeps.plain;
    within = tt;
    covered = elim keeps.covered [
      | inl bare ↦ inl record { trusted = leaves_trusted s t keeps bare step; all = bare.all }
      | inr hidden ↦ inr hidden
    ];
  }

  -- any step
  steps_keep : (depth : ℕ) (motion : Motion) (s t : State) → Keeps net from pred h s → IsStep net depth motion s t → Keeps net from pred h t
  steps_keep depth (motions.Enter i) s t keeps step = enters_keep i s t keeps step
  steps_keep depth motions.Pop s t keeps step = elim step [ inl rule ↦ pops_by_rule_keep s t keeps rule | inr free ↦ pops_without_key_keep s t keeps free ]
  steps_keep depth (motions.Cross j) s t keeps step = crosses_keep j s t keeps step
  steps_keep depth (motions.Push k) s t keeps step = pushes_keep depth k s t keeps step
  steps_keep depth motions.Leave s t keeps step = leaves_keep s t keeps step

  -- ---- trajectories

  -- no state that keeps all this breaks the goal
  keeps_safe : (first s : State) → Keeps net from pred h s → BreaksConf net from pred first s → ⊥
  keeps_safe first s keeps breaks = elim keeps.covered [
    | inl bare ↦ (let both : true ≡ false = sym bare.trusted ∙ breaks.exposed in cc)
    | inr hidden ↦
        (let there : Contains s.stack hidden.k = subst (λ l. Contains l hidden.k) (sym hidden.parts) (Contains-append_right hidden.low (hidden.k ∷ hidden.high) hidden.k (Contains-append_left (hidden.k ∷ []) hidden.high hidden.k (Contains-push [] hidden.k))) in
        let both : true ≡ false = sym hidden.secret ∙ breaks.seen hidden.k there in
        cc)
  ]

  -- all states that are joined to one keep what it keeps
  joined_keep : (depth : ℕ) (s : State) (states : List State) → Keeps net from pred h s → AreJoined net depth s states → (t : State) → Contains (s ∷ states) t → Keeps net from pred h t
  joined_keep depth s [] keeps joined t c = elim (first_or_later s [] t c) [
    | inl e ↦ subst (Keeps net from pred h) e keeps
    | inr later ↦ absurd (let none : later.0 < 0 = later.1 in omega arith)
  ]
  joined_keep depth s (u ∷ states) keeps joined t c = elim (first_or_later s (u ∷ states) t c) [
    | inl e ↦ subst (Keeps net from pred h) e keeps
    | inr later ↦ joined_keep depth u states (steps_keep depth joined.0.0 s u keeps joined.0.1) joined.1 t later
  ]

-- all states that are joined to one have its plain header
joined_plain : (net : Plan) (depth : ℕ) (s : State) (states : List State) → AreJoined net depth s states → (t : State) → Contains (s ∷ states) t → t.plain ≡ s.plain
joined_plain net depth s [] joined t c = elim (first_or_later s [] t c) [
  | inl e ↦ ap plain_of (sym e)
  | inr later ↦ absurd (let none : later.0 < 0 = later.1 in omega arith)
]
joined_plain net depth s (u ∷ states) joined t c = elim (first_or_later s (u ∷ states) t c) [
  | inl e ↦ ap plain_of (sym e)
  | inr later ↦ joined_plain net depth u states joined.1 t later ∙ steps_keep_plain net depth joined.0.0 s u joined.0.1
]

-- where the rules hold, no state of any trajectory of any depth breaks the goal
pub rules_are_sound : RulesAreSound
rules_are_sound net from pred rules depth first states trajectory s c breaks =
    let start = trajectory.start in
    let meant : pred_holds pred first.plain ≡ true = subst (λ p. pred_holds pred p ≡ true) (joined_plain net depth first states trajectory.joined s c) breaks.meant in
    let trusted : is_trusted_place net first.place ≡ true = subst (λ p. is_trusted_place net p ≡ true) (sym breaks.begun) rules.from_trusted in
    let begun = start.starts trusted in
    let same : begun.0 ≡ from = same_area begun.0 from (sym begun.1 ∙ breaks.begun) in
    let own : IsOwn net from pred first.plain =
    record { valid = start.valid; meant = meant; source = subst (λ a. area_has net a first.plain ≡ true) same begun.2 } in
    let keeps = joined_keep net from pred first.plain own rules depth first states (start_keeps net from pred first.plain own rules first breaks.begun refl start.bare) trajectory.joined s c in
    keeps_safe net from pred first.plain own rules first s keeps breaks
