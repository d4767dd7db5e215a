-- A network's filtering, atom by atom.
use Rattle.std.specs.Prelude.{◌≡◌, ℕ, ◌<◌, ◌*◌, List, [], length, slice_index_or}
use Rattle.np_space.specs.Header.{zeros}
use Rattle.np_space.specs.Classes.{AreLeasts}
use Rattle.np_atomset.specs.AtomSet.{has_member}
use Rattle.np_net.specs.declared.filtering.Goal.{Goal}
use Rattle.np_net.specs.declared.filtering.Interface.{Interface}
use Rattle.np_cut.specs.AppliedLists.{AppliedLists, applied_lets}
use Rattle.np_cut.specs.FilterCuts.{filter_tests}
use Rattle.np_flow.specs.Postures.{lets_atom, AllHaveLength}
use Rattle.np_goals.specs.Verdicts.{forbids}
use Rattle.np_goals.specs.declared.cases.Case.{Case}

-- the goal of this number
abbrev pub goal_at : List Goal → Goal → ℕ → Goal
goal_at goals d k = slice_index_or goals k d

-- a set of all atoms for each slot of the network, and one for each goal
pub record HasSizes (interfaces : List Interface) (goals : List Goal) (case : Case) : Type 0 where
  pub slots : length case.posture.slots ≡ 2 * length interfaces
  pub slot_sizes : AllHaveLength (length case.leasts) case.posture.slots
  pub goals_each : length case.bad ≡ length goals
  pub goal_sizes : AllHaveLength (length case.leasts) case.bad

-- The least members are those of the atoms of the filter cuts; an atom is in a slot's set where its least member crosses the slot, and
-- in a goal's set where the goal forbids its least member.
pub record IsCaseOf (interfaces : List Interface) (goals : List Goal) (applied : AppliedLists) (case : Case) : Type 0 where
  pub sizes : HasSizes interfaces goals case
  pub leasts : AreLeasts (filter_tests applied.lists goals) case.leasts
  pub lets : (slot atom : ℕ) → slot < 2 * length interfaces → atom < length case.leasts → lets_atom case.posture.slots atom slot ≡ applied_lets applied slot (slice_index_or case.leasts atom zeros)
  pub bad : (k atom : ℕ) (d : Goal) → k < length goals → atom < length case.leasts → has_member (slice_index_or case.bad k []) atom ≡ forbids (goal_at goals d k) (slice_index_or case.leasts atom zeros)
