-- When a trajectory first gets where goals can be broken.
use Rattle.std.specs.Prelude.{◌≡◌, ℕ, ◌<◌, ◌==◌, ◌&&◌, Bool, true, false, not, List, length, All, Option, Some, None, slice_index_or}
use Rattle.std.specs.List.{list_any}
use Rattle.np_space.specs.Header.{zeros}
use Rattle.np_pred.specs.Meaning.{pred_holds}
use Rattle.np_net.specs.Plan.{Plan}
use Rattle.np_net.specs.declared.associations.IpGoal.{IpGoal}
use Rattle.np_net.specs.declared.associations.IpGoal.TheVariants as goals
use Rattle.np_ipsec.specs.declared.places.Place.{Place}
use Rattle.np_ipsec.specs.declared.places.Place.TheVariants as at
use Rattle.np_ipsec.specs.Steps.{State, is_trusted_place}
use Rattle.np_ipsec.specs.Tables.{is_secret}
use Rattle.np_traj.specs.Breaching.{BreaksAt, IsFirstBreach}
use Rattle.np_traj.specs.Refusals.{is_at_area}
use Rattle.np_traj.specs.States.{started}

-- the state of this number
abbrev pub state_at : List State → ℕ → State
state_at states n = slice_index_or states n (started (at.AtArea 0) zeros)

-- a bare packet is at the area
abbrev pub is_bare_at : ℕ → State → Bool
is_bare_at a s = is_at_area s.place a && length s.stack == 0

-- a packet is where nobody is trusted, and nothing around it hides it
abbrev pub is_exposed : Plan → State → Bool
is_exposed net s = not (is_trusted_place net s.place) && not (list_any (is_secret net) s.stack)

-- the least of the first so many numbers for which the test holds; none where it holds for none of them
abbrev pub IsLeastBelow : (ℕ → Bool) → ℕ → Option ℕ → Type 0
IsLeastBelow test n None = (m : ℕ) → m < n → test m ≡ false
IsLeastBelow test n (Some k) = (k < n) × (test k ≡ true) × ((m : ℕ) → m < k → test m ≡ false)

-- for each area the first of the first so many states at which a bare packet is there
pub record AreArrivals (states : List State) (n : ℕ) (arrivals : List (Option ℕ)) : Type 0 where
  pub each : (a : ℕ) → a < length arrivals → IsLeastBelow (λ m. is_bare_at a (state_at states m)) n (slice_index_or arrivals a None)

-- the first state at which a packet is exposed
abbrev pub IsExposure : Plan → List State → Option ℕ → Type 0
IsExposure net states exposed = IsLeastBelow (λ m. is_exposed net (state_at states m)) (length states) exposed

-- the area is one of so many, if a place is one
abbrev pub IsAreaBelow : ℕ → Place → Type 0
IsAreaBelow areas (at.AtArea a) = a < areas
IsAreaBelow areas (at.AtIn i) = Unit {0}
IsAreaBelow areas (at.AtOut i) = Unit {0}

-- the goal speaks of packets that start so
abbrev pub is_meant : IpGoal → State → Bool
is_meant (goals.Auth from here pred) first = not (is_at_area first.place from) && pred_holds pred first.plain
is_meant (goals.Conf from pred) first = is_at_area first.place from && pred_holds pred first.plain

-- the state that breaks the goal first, of a trajectory that first gets so far there
abbrev pub first_breach : List (Option ℕ) → Option ℕ → IpGoal → Option ℕ
first_breach arrivals exposed (goals.Auth from here pred) = slice_index_or arrivals here None
first_breach arrivals exposed (goals.Conf from pred) = exposed

-- what a goal speaks of is seen of a state
abbrev pub shows : Plan → IpGoal → State → Bool
shows net (goals.Auth from here pred) s = is_bare_at here s
shows net (goals.Conf from pred) s = is_exposed net s

-- all states have the plain header of the first
abbrev pub HavePlainOfFirst : List State → Type 0
HavePlainOfFirst states = All (λ s. s.plain ≡ (state_at states 0).plain) states

-- the state of this number is the first that breaks the goal; none does where there is none
abbrev pub IsBreachOf : Plan → List State → ℕ → Option ℕ → Type 0
IsBreachOf net states g None = (n : ℕ) → BreaksAt net states g n → ⊥
IsBreachOf net states g (Some n) = IsFirstBreach net states g n
