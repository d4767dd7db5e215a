-- What is synthesised for a case, atom by atom.
use Rattle.std.specs.Prelude.{◌≡◌, ℕ, ◌*◌, ◌<◌, Bool, List, [], length, slice_index_or}
use Rattle.np_space.specs.Header.{zeros}
use Rattle.np_space.specs.declared.headers.Header.{Header}
use Rattle.np_atomset.specs.AtomSet.{has_member}
use Rattle.np_net.specs.Plan.{Plan}
use Rattle.np_net.specs.declared.filtering.Goal.{Goal}
use Rattle.np_flow.specs.Postures.{lets_atom, AllHaveLength}
use Rattle.np_flow.specs.Carrying.{IsFirstPath}
use Rattle.np_goals.specs.Cases.{goal_at}
use Rattle.np_goals.specs.Judging.{IsLeastNumber}
use Rattle.np_goals.specs.declared.cases.Case.{Case}
use Rattle.np_synth.specs.Choosing.{shut, IsBroken, BreaksSome, IsChosen}
use Rattle.np_synth.specs.Dropping.{AreDropped}
use Rattle.np_synth.specs.declared.chosen.Dropped.{Dropped}

-- the goals that forbid an atom
abbrev pub bad_for : List (List Bool) → ℕ → ℕ → Bool
bad_for bad atom k = has_member (slice_index_or bad k []) atom

-- the slots that let an atom cross while the free ones are shut
abbrev pub shut_for : Plan → Case → ℕ → ℕ → Bool
shut_for net case atom = shut net.free (lets_atom case.posture.slots atom)

-- The sets of the slots are those of the chosen posture of each atom; no goal is broken with the free slots shut; the drops are all there.
pub record IsSynthesis (net : Plan) (case : Case) (slots : List (List Bool)) (drops : List Dropped) : Type 0 where
  pub two_each : length slots ≡ 2 * length net.interfaces
  pub sizes : AllHaveLength (length case.leasts) slots
  pub attained : (atom : ℕ) → atom < length case.leasts → BreaksSome net.interfaces net.goals (bad_for case.bad atom) (shut_for net case atom) → ⊥
  pub chosen : (atom : ℕ) → atom < length case.leasts → IsChosen net.interfaces net.goals (bad_for case.bad atom) net.free (lets_atom case.posture.slots atom) (lets_atom slots atom)
  pub dropped : AreDropped net.interfaces net.goals net.free (length case.leasts) (bad_for case.bad) (lets_atom slots) drops

-- With the free slots shut this is the first goal that some atom breaks, with the least member of the least such atom, and its first path.
pub record IsUnattainable (net : Plan) (case : Case) (goal : ℕ) (header : Header) (hops : List (ℕ × ℕ)) : Type 0 where
  pub atom : ℕ
  pub within : atom < length case.leasts
  pub least : IsLeastNumber (λ a. IsBroken net.interfaces net.goals (bad_for case.bad a) (shut_for net case a) goal) atom
  pub header_is : header ≡ slice_index_or case.leasts atom zeros
  pub path : (d : Goal) → IsFirstPath net.interfaces (shut_for net case atom) (goal_at net.goals d goal).from hops (goal_at net.goals d goal).to
  pub first : (k a : ℕ) → k < goal → IsBroken net.interfaces net.goals (bad_for case.bad a) (shut_for net case a) k → ⊥
