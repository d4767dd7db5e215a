-- Postures: for each slot of a network the set of atoms that cross it.
use Rattle.std.specs.Prelude.{◌≡◌, ℕ, ◌*◌, ◌<◌, Bool, List, [], length, slice_index_or}
use Rattle.np_atomset.specs.AtomSet.{has_member}
use Rattle.np_net.specs.declared.filtering.Interface.{Interface}

-- the slots that let the atom cross; no slot past the last one does
abbrev pub lets_atom : List (List Bool) → ℕ → ℕ → Bool
lets_atom slots atom slot = has_member (slice_index_or slots slot []) atom

-- how many atoms there are, by the set of slot 0; none without slots
abbrev pub atom_count : List (List Bool) → ℕ
atom_count slots = length (slice_index_or slots 0 [])

-- each of the sets has this length
abbrev pub AllHaveLength : ℕ → List (List Bool) → Type 0
AllHaveLength n sets = (k : ℕ) → k < length sets → length (slice_index_or sets k []) ≡ n

-- two slots for each interface, inward and outward, and in each a set of the same atoms
pub record FitsInterfaces (interfaces : List Interface) (slots : List (List Bool)) : Type 0 where
  pub two_each : length slots ≡ 2 * length interfaces
  pub same : AllHaveLength (atom_count slots) slots
