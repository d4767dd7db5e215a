-- How the sets of a case are made of the sets of its cuts. None of it stands in a public contract.
use Rattle.std.specs.Prelude.{◌≡◌, ℕ, ◌+◌, ◌<◌, Bool, true, List, [], length, replicate, Option, Some, None, if◌then◌else◌, slice_index_or}
use Rattle.np_atomset.specs.AtomSet.{without}
use Rattle.np_net.specs.declared.filtering.Goal.{Goal}
use Rattle.np_goals.specs.Cases.{goal_at}

-- of so many atoms those that cross a slot: those of the cut that its list is, and all where it has no list
abbrev pub crossing_set : List (List Bool) → ℕ → Option ℕ → List Bool
crossing_set sets atoms None = replicate atoms true
crossing_set sets atoms (Some place) = slice_index_or sets place []

-- of so many atoms those that a goal forbids: those of the cut that its predicate is, or for `only` the others
abbrev pub forbidden_set : List (List Bool) → ℕ → ℕ → Bool → List Bool
forbidden_set sets atoms cut only = if only then without (replicate atoms true) (slice_index_or sets cut []) else slice_index_or sets cut []

-- those of the first n goals, whose cuts are numbered from the first on
pub record AreForbidden (sets : List (List Bool)) (atoms first : ℕ) (goals : List Goal) (n : ℕ) (bad : List (List Bool)) : Type 0 where
  pub count : length bad ≡ n
  pub each : (k : ℕ) (d : Goal) → k < n → slice_index_or bad k [] ≡ forbidden_set sets atoms (first + k) (goal_at goals d k).only
