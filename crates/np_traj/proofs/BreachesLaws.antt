-- The states of a replay have breaches, and no others.
use Rattle.std.proofs.Common.{◌≡◌, ◌⊎◌, ℕ, zero, suc, ◌+◌, ◌<◌, Bool, true, false, List, [], ◌∷◌, ◌++◌, length, AllPairs, Contains, Option, Some, None, slice_get, inl, inr, refl, sym, ◌∙◌, subst, arith}
use Rattle.std.specs.Option.{option_map, option_to_list}
use Rattle.std.proofs.lemmas.Bool.{cases_lt}
use Rattle.std.proofs.lemmas.List.Elements.{All-contains, All-nil, Contains-append_cases, Contains-append_left, Contains-append_right, Contains-push, Contains-push_cases}
use Rattle.np_net.specs.Plan.{Plan}
use Rattle.np_net.specs.declared.associations.IpGoal.{IpGoal}
use Rattle.np_ipsec.specs.Steps.{State}
use Rattle.np_script.specs.declared.script.Script.{Script}
use Rattle.np_traj.specs.Breaching.{AreBreaches, IsFirstBreach}
use Rattle.np_traj.specs.Laws.{Breaches}
use Rattle.np_traj.specs.Replaying.{AreReplayed}
use Rattle.np_traj.specs.Sighting.{HavePlainOfFirst, IsBreachOf, IsLeastBelow, is_meant, shows, state_at}
use Rattle.np_traj.specs.States.{started}
use Rattle.np_traj.specs.declared.states.Illegal.{Illegal}
use Rattle.np_traj.proofs.BreachLaws.{first_seen, no_breaches, one_goal, seen}
use Rattle.np_traj.proofs.ReplayLaws.{plain_stays, some_states}

-- ---- the least number

-- the least of the first so many numbers for which the test holds, if there is one
record Least (test : ℕ → Bool) (n : ℕ) : Type 0 where
  found : Option ℕ
  is : IsLeastBelow test n found

-- it is the same of one number more, or this number
or_last : (test : ℕ → Bool) (n : ℕ) (found : Option ℕ) → IsLeastBelow test n found → (b : Bool) → test n ≡ b → Least test (suc n)
or_last test n (Some k) is b last = record { found = Some k; is = (let lt : k < n = is.0 in omega arith, is.1, is.2) }
or_last test n None is true last = record { found = Some n; is = (omega arith, last, is) }
or_last test n None is false last = record {
  found = None;
  is = λ m lt. elim (cases_lt m n) [ inl earlier ↦ is m earlier | inr here ↦ let same : n ≡ m = omega arith in subst (λ k. test k ≡ false) same last ];
}

least : (test : ℕ → Bool) (n : ℕ) → Least test n
least test zero = record { found = None; is = λ m lt. absurd (omega arith) }
least test (suc n) = let before = least test n in or_last test n before.found before.is (test n) refl

-- ---- there are breaches

-- the first state that breaks a goal, if there is one
record Breach (net : Plan) (states : List State) (g : ℕ) : Type 0 where
  found : Option ℕ
  is : IsBreachOf net states g found

module _ (net : Plan) (states : List State) (some : 0 < length states) (plain : HavePlainOfFirst states) where
  -- a goal may speak of the packet
  if_meant : (g : ℕ) (goal : IpGoal) → slice_get net.ipgoals g ≡ Some goal → (meant : Bool) → is_meant goal (state_at states 0) ≡ meant → Breach net states g
  if_meant g goal goal_is true meant =
      let first = least (λ n. shows net goal (state_at states n)) (length states) in
      record { found = first.found; is = first_seen net states g goal goal_is some plain meant first.found first.is }
  if_meant g goal goal_is false meant = record { found = None; is = λ n breach. let means = (seen net states g goal goal_is some plain n breach).0 in cc }

  -- there may be no such goal
  if_goal : (g : ℕ) (goal : Option IpGoal) → slice_get net.ipgoals g ≡ goal → Breach net states g
  if_goal g None none = record { found = None; is = λ n breach. let some_goal = breach.goal_is in cc }
  if_goal g (Some goal) goal_is = if_meant g goal goal_is (is_meant goal (state_at states 0)) refl

  -- one goal more
  one_more : (g : ℕ) → Breaches net states g → Breach net states g → Breaches net states (suc g)
  one_more g before this =
      let same : g + 1 ≡ suc g = omega arith in
      let found : Breaches net states (g + 1) =
      record { breaches = before.breaches ++ option_to_list (option_map (λ n. (g, n)) this.found); are = one_goal net states g before.breaches before.are this.found this.is } in
      subst (λ k. Breaches net states k) same found

  breaches_below : (goals : ℕ) → Breaches net states goals
  breaches_below zero = record { breaches = []; are = no_breaches net states }
  breaches_below (suc g) = one_more g (breaches_below g) (if_goal g (slice_get net.ipgoals g) refl)

-- no states, no breaches
none_without_states : (net : Plan) (goals : ℕ) → AreBreaches net [] goals []
none_without_states net goals = record {
  each = All-nil (λ breach. (breach.0 < goals) × IsFirstBreach net [] breach.0 breach.1);
  all = λ g n lt breach. let some = breach.first_is in cc;
  ascending = λ i j d lt inside. absurd (omega arith);
}

-- the states of a replay have breaches
pub breaches_of : (net : Plan) (depth : ℕ) (script : Script) (states : List State) (stop : Option (ℕ × Illegal)) (goals : ℕ) → AreReplayed net depth script states stop → Breaches net states goals
breaches_of net depth script [] stop goals replayed = record { breaches = []; are = none_without_states net goals }
breaches_of net depth script (s ∷ states) stop goals replayed =
    let first = started script.place script.plain in
    breaches_below net (s ∷ states) (some_states net depth first script.moves (s ∷ states) stop replayed.1) (plain_stays net depth first script.moves (s ∷ states) stop replayed.1) goals

-- ---- lists in order

module _ {X : Type 0} (R : X → X → Type 0) (one_way : (x y : X) → R x y → R y x → ⊥) where
  -- a list has its first element
  here : (x : X) (xs : List X) → Contains (x ∷ xs) x
  here x xs = Contains-append_left (x ∷ []) xs x (Contains-push [] x)

  -- an element of a list is its first or in its rest
  head_or_later : (x : X) (xs : List X) (z : X) → Contains (x ∷ xs) z → (x ≡ z) ⊎ Contains xs z
  head_or_later x xs z c =
      elim (Contains-append_cases (x ∷ []) xs z c) [ inl first ↦ only (Contains-push_cases [] x z first) | inr rest ↦ inr rest ]
    where
      only : Contains [] z ⊎ (x ≡ z) → (x ≡ z) ⊎ Contains xs z
      only (inl c) = let below : c.0 < 0 = c.1 in absurd (omega arith)
      only (inr e) = inl e

  -- what comes after the first
  after : (x : X) (xs : List X) → AllPairs R (x ∷ xs) → (z : X) → Contains xs z → R x z
  after x xs pairs z c = All-contains (λ w. R x w) xs z (λ k d lt. pairs 0 (suc k) d (omega arith) (omega (arith, lt))) c

  rest_pairs : (x : X) (xs : List X) → AllPairs R (x ∷ xs) → AllPairs R xs
  rest_pairs x xs pairs = λ i j d lt inside. pairs (suc i) (suc j) d (omega (arith, lt)) (omega (arith, inside))

  same_heads : (x y : X) (xs ys : List X) → AllPairs R (x ∷ xs) → AllPairs R (y ∷ ys) → Contains (y ∷ ys) x → Contains (x ∷ xs) y → x ≡ y
  same_heads x y xs ys up other c d =
      elim (head_or_later y ys x c) [
        | inl e ↦ sym e
        | inr in_ys ↦ elim (head_or_later x xs y d) [ inl e ↦ e | inr in_xs ↦ absurd (one_way x y (after x xs up y in_xs) (after y ys other x in_ys)) ]
      ]

  after_heads : (x y : X) (xs ys : List X) → x ≡ y → AllPairs R (x ∷ xs) → ((z : X) → Contains (x ∷ xs) z → Contains (y ∷ ys) z) → (z : X) → Contains xs z → Contains ys z
  after_heads x y xs ys e up among z c =
      elim (head_or_later y ys z (among z (Contains-append_right (x ∷ []) xs z c))) [
        | inl p ↦ let itself : R x x = subst (λ w. R x w) (sym (e ∙ p)) (after x xs up z c) in absurd (one_way x x itself itself)
        | inr q ↦ q
      ]

  -- lists in this order with the same elements are the same
  same_lists : (xs ys : List X) → AllPairs R xs → AllPairs R ys → ((z : X) → Contains xs z → Contains ys z) → ((z : X) → Contains ys z → Contains xs z) → xs ≡ ys
  same_lists [] [] up other f g = refl
  same_lists [] (y ∷ ys) up other f g = let c = g y (here y ys) in let below : c.0 < 0 = c.1 in absurd (omega arith)
  same_lists (x ∷ xs) [] up other f g = let c = f x (here x xs) in let below : c.0 < 0 = c.1 in absurd (omega arith)
  same_lists (x ∷ xs) (y ∷ ys) up other f g =
      let heads : x ≡ y = same_heads x y xs ys up other (f x (here x xs)) (g y (here y ys)) in
      let tails : xs ≡ ys =
      same_lists xs ys (rest_pairs x xs up) (rest_pairs y ys other) (after_heads x y xs ys heads up f) (after_heads y x ys xs (sym heads) other g) in
      (λ i. heads i ∷ tails i)

-- ---- there are no others

module _ (net : Plan) (states : List State) (goals : ℕ) where
  -- a goal has one first breach
  one_breach : (g n m : ℕ) → IsFirstBreach net states g n → IsFirstBreach net states g m → n ≡ m
  one_breach g n m a b = elim (cases_lt n m) [
    | inl earlier ↦ absurd (b.first n earlier a.breaks)
    | inr upto ↦ elim (cases_lt m n) [ inl earlier ↦ absurd (a.first m earlier b.breaks) | inr down ↦ let same : n ≡ m = omega arith in same ]
  ]

  -- a breach of the one list is one of the other
  among : (xs ys : List (ℕ × ℕ)) → AreBreaches net states goals xs → AreBreaches net states goals ys → (z : ℕ × ℕ) → Contains xs z → Contains ys z
  among xs ys a b z c =
      let is = All-contains (λ breach. (breach.0 < goals) × IsFirstBreach net states breach.0 breach.1) xs z a.each c in
      let found = b.all z.0 z.1 is.0 is.1.breaks in
      let own = All-contains (λ breach. (breach.0 < goals) × IsFirstBreach net states breach.0 breach.1) ys (z.0, found.0) b.each found.1 in
      let same : found.0 ≡ z.1 = one_breach z.0 found.0 z.1 own.1 is.1 in
      subst (λ n. Contains ys (z.0, n)) same found.1

  -- the breaches of states are one list
  pub one_list : (xs ys : List (ℕ × ℕ)) → AreBreaches net states goals xs → AreBreaches net states goals ys → xs ≡ ys
  one_list xs ys a b =
      same_lists (λ x y. x.0 < y.0) (λ x y less more. omega (arith, less, more)) xs ys a.ascending b.ascending (among xs ys a b) (among ys xs b a)
