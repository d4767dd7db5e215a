-- A start is refused exactly where it is none.
use Rattle.std.proofs.Common.{◌≡◌, ◌↔◌, ℕ, ◌<◌, Bool, true, false, length, None, if◌then◌else◌, refl}
use Rattle.std.proofs.lemmas.List.Elements.{All-nil}
use Rattle.np_space.specs.Header.{is_valid_header}
use Rattle.np_space.specs.declared.headers.Header.{Header}
use Rattle.np_net.specs.Plan.{Plan}
use Rattle.np_ipsec.specs.declared.places.Place.{Place}
use Rattle.np_ipsec.specs.declared.places.Place.TheVariants as at
use Rattle.np_ipsec.specs.Steps.{IsPlace, area_has, is_trusted_place}
use Rattle.np_ipsec.specs.Trajectories.{IsStart, StartsAt}
use Rattle.np_traj.specs.Refusals.{start_refusal, trusted_start_refusal}
use Rattle.np_traj.specs.States.{IsStateOf, started}
use Rattle.np_traj.proofs.RefusalLaws.{neither, unrefused}

module _ (net : Plan) (place : Place) (plain : Header) where
  -- a trusted place that doesn't refuse is an area with the source
  at_trusted : (p : Place) → trusted_start_refusal net p plain ≡ None → (a : ℕ) × (p ≡ at.AtArea a) × (area_has net a plain ≡ true)
  at_trusted (at.AtArea a) none = (a, refl, unrefused (area_has net a plain) _ none)
  at_trusted (at.AtIn i) none = cc
  at_trusted (at.AtOut i) none = cc

  judged_start : (trusted : Bool) → is_trusted_place net place ≡ trusted → (if trusted then trusted_start_refusal net place plain else None) ≡ None → StartsAt net (started place plain)
  judged_start true is none = λ _. at_trusted place none
  judged_start false is none = λ trusted. cc

  -- what isn't refused is a start
  pub start_of_none : IsPlace net place → start_refusal net place plain ≡ None → IsStart net (started place plain)
  start_of_none here none =
      let both = neither _ _ none in
      record {
        place = here;
        valid = unrefused (is_valid_header plain) _ both.0;
        starts = judged_start (is_trusted_place net place) refl both.1;
        bare = refl;
        unmarked = refl;
      }

  at_area : (a : ℕ) → place ≡ at.AtArea a → area_has net a plain ≡ true → trusted_start_refusal net place plain ≡ None
  at_area a here has = rw (here, has) refl

  none_by : (trusted : Bool) → is_trusted_place net place ≡ trusted → StartsAt net (started place plain) → (if trusted then trusted_start_refusal net place plain else None) ≡ None
  none_by true is starts = let from = starts is in at_area from.0 from.1 from.2
  none_by false is starts = refl

  -- a start isn't refused
  pub none_of_start : IsStart net (started place plain) → start_refusal net place plain ≡ None
  none_of_start start =
      let valid : is_valid_header plain ≡ true = start.valid in
      rw valid (none_by (is_trusted_place net place) refl start.starts)

  -- what starts is of the network
  pub started_fits : IsPlace net place → IsStateOf net (started place plain)
  started_fits here = record { place = here; stack = All-nil (λ k. k < length net.sas); mark = tt }

-- a start isn't refused exactly where it is one
pub starts_are_unrefused : (net : Plan) (place : Place) (plain : Header) → IsPlace net place → (start_refusal net place plain ≡ None) ↔ IsStart net (started place plain)
starts_are_unrefused net place plain here = (start_of_none net place plain here, none_of_start net place plain)
