-- The breaches of a trajectory, goal by goal.
use Rattle.std.proofs.Common.{◌≡◌, ℕ, ◌+◌, ◌<◌, Bool, true, false, List, [], ◌∷◌, ◌++◌, length, get_or, All, Contains, Option, Some, None, slice_get, if◌then◌else◌, inl, inr, sym, ◌∙◌, ap, subst, arith, append-nil}
use Rattle.std.specs.Option.{option_map, option_to_list}
use Rattle.std.proofs.lemmas.Bool.{cases_lt}
use Rattle.std.proofs.lemmas.Option.{get_or_from_slice_get, slice_get-get_or, slice_get_within}
use Rattle.std.proofs.lemmas.List.{get_or_default}
use Rattle.std.proofs.lemmas.List.Elements.{All-get_or, All-push, All-weaker, Contains-append_left, Contains-push}
use Rattle.std.proofs.lemmas.List.Quantifiers.{all_pairs_push}
use Rattle.np_net.specs.Network.{IsIpGoal, IsNetwork}
use Rattle.np_net.specs.Plan.{Plan}
use Rattle.np_net.specs.declared.associations.IpGoal.{IpGoal}
use Rattle.np_net.specs.declared.associations.IpGoal.TheVariants as goals
use Rattle.np_net.proofs.ListLaws.{all_at}
use Rattle.np_ipsec.specs.Steps.{State}
use Rattle.np_ipsec.specs.Trajectories.{BreaksGoal}
use Rattle.np_traj.specs.Breaching.{AreBreaches, BreaksAt, IsFirstBreach}
use Rattle.np_traj.specs.Sighting.{AreArrivals, HavePlainOfFirst, IsBreachOf, IsExposure, IsLeastBelow, first_breach, is_meant, shows, state_at}
use Rattle.np_traj.proofs.SightLaws.{breach_of_seen, seen_of_breach}

-- ---- one goal

module _ (net : Plan) (states : List State) (g : ℕ) (goal : IpGoal) (goal_is : slice_get net.ipgoals g ≡ Some goal) (some : 0 < length states) (plain : HavePlainOfFirst states) where
  -- a state of the list has the plain header of the first
  same_plain : (n : ℕ) → n < length states → (state_at states n).plain ≡ (state_at states 0).plain
  same_plain n lt = All-get_or (λ s. s.plain ≡ (state_at states 0).plain) states n _ lt plain

  within : (n : ℕ) → BreaksAt net states g n → n < length states
  within n breach = slice_get_within states n breach.here breach.here_is

  -- what breaks the goal is seen
  pub seen : (n : ℕ) → BreaksAt net states g n → (is_meant goal (state_at states 0) ≡ true) × (shows net goal (state_at states n) ≡ true)
  seen n breach =
      let first_is : state_at states 0 ≡ breach.first = get_or_from_slice_get states 0 breach.first _ breach.first_is in
      let here_is : state_at states n ≡ breach.here = get_or_from_slice_get states n breach.here _ breach.here_is in
      let the : breach.the_goal ≡ goal = let a = breach.goal_is in cc in
      let at_goal : BreaksGoal net goal breach.first breach.here = subst (λ d. BreaksGoal net d breach.first breach.here) the breach.breaks in
      let at_first : BreaksGoal net goal (state_at states 0) breach.here = subst (λ s. BreaksGoal net goal s breach.here) (sym first_is) at_goal in
      let at_here : BreaksGoal net goal (state_at states 0) (state_at states n) = subst (λ s. BreaksGoal net goal (state_at states 0) s) (sym here_is) at_first in
      seen_of_breach net (state_at states 0) (state_at states n) goal (same_plain n (within n breach)) at_here

  -- what is seen breaks the goal
  breaks : (n : ℕ) → n < length states → is_meant goal (state_at states 0) ≡ true → shows net goal (state_at states n) ≡ true → BreaksAt net states g n
  breaks n lt meant shown = record {
    the_goal = goal;
    first = state_at states 0;
    here = state_at states n;
    goal_is = goal_is;
    first_is = slice_get-get_or states 0 _ some;
    here_is = slice_get-get_or states n _ lt;
    breaks = breach_of_seen net (state_at states 0) (state_at states n) goal (same_plain n lt) meant shown;
  }

  -- the first state of which it is seen is the first that breaks it
  pub first_seen : is_meant goal (state_at states 0) ≡ true → (o : Option ℕ) → IsLeastBelow (λ n. shows net goal (state_at states n)) (length states) o → IsBreachOf net states g o
  first_seen meant None least = λ n breach. let yes' = (seen n breach).1 in let none = least n (within n breach) in cc
  first_seen meant (Some n) least = record {
    breaks = breaks n least.0 meant least.1;
    first = λ m lt breach. let yes' = (seen m breach).1 in let none = least.2 m lt in cc;
  }

  module _ (arrivals : List (Option ℕ)) (exposed : Option ℕ) (in_areas : IsIpGoal (length arrivals) goal) (arrive : AreArrivals states (length states) arrivals) (expose : IsExposure net states exposed) where
    least_seen : IsLeastBelow (λ n. shows net goal (state_at states n)) (length states) (first_breach arrivals exposed goal)
    least_seen = by goal in_areas
      where
        by : (d : IpGoal) → IsIpGoal (length arrivals) d → IsLeastBelow (λ n. shows net d (state_at states n)) (length states) (first_breach arrivals exposed d)
        by (goals.Auth from here pred) is = arrive.each here is.1
        by (goals.Conf from pred) is = expose

    -- a goal is asked only of packets that it speaks of
    pub breach_found : (meant : Bool) → meant ≡ is_meant goal (state_at states 0) → IsBreachOf net states g (if meant then first_breach arrivals exposed goal else None)
    breach_found true is = first_seen (sym is) (first_breach arrivals exposed goal) least_seen
    breach_found false is = λ n breach. let yes' = (seen n breach).0 in cc

-- ---- all goals

-- no goals, no breaches
pub no_breaches : (net : Plan) (states : List State) → AreBreaches net states 0 []
no_breaches net states = record {
  each = λ k d lt. absurd (omega arith);
  all = λ g n lt. absurd (omega arith);
  ascending = λ i j d lt inside. absurd (omega arith);
}

module _ (net : Plan) (states : List State) (g : ℕ) (breaches : List (ℕ × ℕ)) (are : AreBreaches net states g breaches) where
  -- a breach of more goals
  wider : All (λ breach. (breach.0 < g + 1) × IsFirstBreach net states breach.0 breach.1) breaches
  wider = All-weaker (λ breach. (breach.0 < g) × IsFirstBreach net states breach.0 breach.1) (λ breach. (breach.0 < g + 1) × IsFirstBreach net states breach.0 breach.1)
      (λ breach is. (let lt : breach.0 < g = is.0 in omega arith, is.1)) breaches are.each

  -- what comes of one more goal
  pub one_goal : (o : Option ℕ) → IsBreachOf net states g o → AreBreaches net states (g + 1) (breaches ++ option_to_list (option_map (λ n. (g, n)) o))
  one_goal None none =
      subst (λ l. AreBreaches net states (g + 1) l) (sym (append-nil breaches)) record {
        each = wider;
        all = λ f n lt breach. elim (cases_lt f g) [
          | inl earlier ↦ are.all f n earlier breach
          | inr here ↦ let same : f ≡ g = omega arith in absurd (none n (subst (λ e. BreaksAt net states e n) same breach))
        ];
        ascending = are.ascending;
      }
  one_goal (Some n) first = record {
    each = All-push (λ breach. (breach.0 < g + 1) × IsFirstBreach net states breach.0 breach.1) breaches (g, n) wider (omega arith, first);
    all = λ f m lt breach. elim (cases_lt f g) [
      | inl earlier ↦ let old = are.all f m earlier breach in (old.0, Contains-append_left breaches ((g, n) ∷ []) (f, old.0) old.1)
      | inr here ↦ let same : g ≡ f = omega arith in (n, subst (λ e. Contains (breaches ++ (g, n) ∷ []) (e, n)) same (Contains-push breaches (g, n)))
    ];
    ascending = all_pairs_push (λ x y. x.0 < y.0) breaches (g, n) are.ascending (λ k d lt. (are.each k d lt).0);
  }

-- ---- the goal of a number, as the code reads it

-- the item that was read is the item at the place
item_is : {X : Type 0} (xs ys : List X) (n : ℕ) (x : X) → ys ≡ xs → n < length xs → x ≡ get_or ys n x → slice_get xs n ≡ Some x
item_is xs ys n x same lt is = slice_get-get_or xs n x lt ∙ ap (λ y. Some y) (ap (λ l. get_or l n x) (sym same) ∙ sym is)

module _ (net : Plan) (network : IsNetwork net) (states : List State) (g : ℕ) (goal : IpGoal) (goals : List IpGoal) (same : goals ≡ net.ipgoals) (lt : g < length net.ipgoals) (goal_is : goal ≡ get_or goals g goal) (some : 0 < length states) (plain : HavePlainOfFirst states) (first : State) (first_is : first ≡ get_or states 0 first) where
  -- the first state that was read
  the_first : first ≡ state_at states 0
  the_first = first_is ∙ get_or_default states 0 first _ some

  goal_on_areas : IsIpGoal (length net.areas) goal
  goal_on_areas = all_at (λ d. IsIpGoal (length net.areas) d) net.ipgoals g goal lt (goal_is ∙ ap (λ l. get_or l g goal) same) network.ipgoals

  module _ (arrivals : List (Option ℕ)) (exposed : Option ℕ) (areas : length arrivals ≡ length net.areas) (arrive : AreArrivals states (length states) arrivals) (expose : IsExposure net states exposed) where
    pub breach_read : (meant : Bool) → meant ≡ is_meant goal first → IsBreachOf net states g (if meant then first_breach arrivals exposed goal else None)
    breach_read meant is =
        breach_found net states g goal (item_is net.ipgoals goals g goal same lt goal_is) some plain arrivals exposed (subst (λ n. IsIpGoal n goal) (sym areas) goal_on_areas) arrive expose meant (is ∙ ap (λ s. is_meant goal s) the_first)
