-- What is seen of a state is what its goals are broken by.
use Rattle.std.proofs.Common.{◌≡◌, ℕ, ◌<◌, ◌≤◌, ◌==◌, ◌&&◌, Bool, true, false, not, List, [], ◌∷◌, length, get_or, Contains, refl, sym, ap, subst, arith}
use Rattle.std.proofs.lemmas.Bool.{eq-eqb, eqb-true}
use Rattle.std.proofs.lemmas.List.{get_or_default}
use Rattle.std.proofs.lemmas.List.Elements.{All-from_get_or}
use Rattle.std.proofs.lemmas.List.Folds.{list_any_at, list_any_none}
use Rattle.std.specs.List.{list_any}
use Rattle.np_pred.specs.Meaning.{pred_holds}
use Rattle.np_net.specs.Plan.{Plan}
use Rattle.np_net.specs.declared.associations.IpGoal.{IpGoal}
use Rattle.np_net.specs.declared.associations.IpGoal.TheVariants as goals
use Rattle.np_ipsec.specs.declared.places.Place.{Place}
use Rattle.np_ipsec.specs.declared.places.Place.TheVariants as at
use Rattle.np_ipsec.specs.Steps.{State}
use Rattle.np_ipsec.specs.Tables.{is_secret}
use Rattle.np_ipsec.specs.Trajectories.{BreaksGoal}
use Rattle.np_traj.specs.Refusals.{is_at_area}
use Rattle.np_traj.specs.Sighting.{is_meant, shows}

-- what none of the numbers passes, none of them does
pub none_secret : (p : ℕ → Bool) (xs : List ℕ) (n : ℕ) → length xs ≤ n → ((m : ℕ) → m < n → p (get_or xs m 0) ≡ false) → false ≡ list_any p xs
none_secret p xs n all none = sym (list_any_none p xs (All-from_get_or (λ x. p x ≡ false) xs 0 (λ i lt. none i (omega arith))))

-- ---- tests

-- both of two tests hold
both_hold : (a b : Bool) → (a && b) ≡ true → (a ≡ true) × (b ≡ true)
both_hold true b holds = (refl, holds)
both_hold false b holds = cc

and_hold : (a b : Bool) → a ≡ true → b ≡ true → (a && b) ≡ true
and_hold a b one other = rw (one, other) refl

holds_not : (a : Bool) → a ≡ false → not a ≡ true
holds_not a is = rw is refl

not_holds : (a : Bool) → not a ≡ true → a ≡ false
not_holds true is = cc
not_holds false is = refl

-- the place is the area
pub at_area_is : (p : Place) (a : ℕ) → is_at_area p a ≡ true → p ≡ at.AtArea a
at_area_is (at.AtArea b) a is = ap at.AtArea (eqb-true b a is)
at_area_is (at.AtIn i) a is = cc
at_area_is (at.AtOut i) a is = cc

pub is_at_that : (p : Place) (a : ℕ) → p ≡ at.AtArea a → is_at_area p a ≡ true
is_at_that p a is = rw (is, eq-eqb a a refl) refl

not_there : (p : Place) (a : ℕ) → (p ≡ at.AtArea a → ⊥) → is_at_area p a ≡ false
not_there p a other = by (is_at_area p a) refl
  where
    by : (b : Bool) → is_at_area p a ≡ b → is_at_area p a ≡ false
    by true is = absurd (other (at_area_is p a is))
    by false is = is

bare_is : (xs : List ℕ) → (length xs == 0) ≡ true → xs ≡ []
bare_is [] is = refl
bare_is (x ∷ xs) is = let none : length (x ∷ xs) ≡ 0 = eqb-true (length (x ∷ xs)) 0 is in absurd (omega arith)

-- nothing on a stack is secret
unhidden : (p : ℕ → Bool) (xs : List ℕ) → list_any p xs ≡ false → (k : ℕ) → Contains xs k → p k ≡ false
unhidden p xs none k inside = by (p k) refl
  where
    by : (b : Bool) → p k ≡ b → p k ≡ false
    by true is = let any : list_any p xs ≡ true = list_any_at p xs inside.0 k inside.1 (subst (λ l. p l ≡ true) (sym inside.2) is) in cc
    by false is = is

-- and the other way round
all_unhidden : (p : ℕ → Bool) (xs : List ℕ) → ((k : ℕ) → Contains xs k → p k ≡ false) → list_any p xs ≡ false
all_unhidden p xs none = list_any_none p xs (λ i d lt. none (get_or xs i d) (i, lt, get_or_default xs i (get_or xs i d) d lt))

-- ---- goals

module _ (net : Plan) (first s : State) where
  -- what breaks a goal is seen, of a packet that the goal speaks of
  pub seen_of_breach : (goal : IpGoal) → s.plain ≡ first.plain → BreaksGoal net goal first s → (is_meant goal first ≡ true) × (shows net goal s ≡ true)
  seen_of_breach (goals.Auth from here pred) same breach = (
    and_hold _ _ (holds_not _ (not_there first.place from breach.forged)) (subst (λ h. pred_holds pred h ≡ true) same breach.meant),
    and_hold _ _ (is_at_that s.place here breach.arrived) (subst (λ (l : List ℕ). (length l == 0) ≡ true) (sym breach.bare) refl),
  )
  seen_of_breach (goals.Conf from pred) same breach = (
    and_hold _ _ (is_at_that first.place from breach.begun) (subst (λ h. pred_holds pred h ≡ true) same breach.meant),
    and_hold _ _ (holds_not _ breach.exposed) (holds_not _ (all_unhidden (is_secret net) s.stack breach.seen)),
  )

  -- and the other way round
  pub breach_of_seen : (goal : IpGoal) → s.plain ≡ first.plain → is_meant goal first ≡ true → shows net goal s ≡ true → BreaksGoal net goal first s
  breach_of_seen (goals.Auth from here pred) same meant seen =
      let m = both_hold _ _ meant in
      let b = both_hold _ _ seen in
      record {
        arrived = at_area_is s.place here b.0;
        bare = bare_is s.stack b.1;
        meant = subst (λ h. pred_holds pred h ≡ true) (sym same) m.1;
        forged = λ there. let is : is_at_area first.place from ≡ true = is_at_that first.place from there in let isnt : is_at_area first.place from ≡ false = not_holds (is_at_area first.place from) m.0 in cc;
      }
  breach_of_seen (goals.Conf from pred) same meant seen =
      let m = both_hold _ _ meant in
      let b = both_hold _ _ seen in
      record {
        begun = at_area_is first.place from m.0;
        meant = subst (λ h. pred_holds pred h ≡ true) (sym same) m.1;
        exposed = not_holds _ b.0;
        seen = unhidden (is_secret net) s.stack (not_holds _ b.1);
      }
