-- How atoms spread from area to area, a device at a time.
use Rattle.std.specs.Prelude.{◌≡◌, ◌⊎◌, ℕ, ◌+◌, ◌*◌, ◌<◌, Bool, true, false, List, [], ◌∷◌, length, count_by, slice_index_or}
use Rattle.np_atomset.specs.AtomSet.{has_member}
use Rattle.np_net.specs.Path.{device_of, area_of}
use Rattle.np_net.specs.declared.filtering.Interface.{Interface}
use Rattle.np_flow.specs.Postures.{lets_atom, AllHaveLength}
use Rattle.np_flow.specs.Carrying.{Reaches}

-- whether set n has the atom; no set past the last one does
abbrev pub has_atom : List (List Bool) → ℕ → ℕ → Bool
has_atom sets n atom = has_member (slice_index_or sets n []) atom

-- how many members the sets have in all
abbrev pub total : List (List Bool) → ℕ
total [] = 0
total (set ∷ sets) = count_by (λ b. b) set + total sets

-- no set has an atom
abbrev pub AreEmpty : List (List Bool) → Type 0
AreEmpty sets = (n atom : ℕ) → has_atom sets n atom ≡ false

-- each interface is of one of so many devices and on one of so many areas
abbrev pub AreWithin : List Interface → ℕ → ℕ → Type 0
AreWithin interfaces devices areas =
    (n : ℕ) → n < length interfaces → (device_of interfaces n < devices) × (area_of interfaces n < areas)

-- the atom may go in at interface n, which is on the area where atoms start
abbrev pub Begins : List Interface → List (List Bool) → ℕ → ℕ → ℕ → Type 0
Begins interfaces slots from n atom = (has_atom slots (2 * n) atom ≡ true) × (area_of interfaces n ≡ from)

-- the atom goes in at interface n, whose area it reaches
abbrev pub Enters : List Interface → List (List Bool) → List (List Bool) → ℕ → ℕ → Type 0
Enters interfaces slots areas n atom = (has_atom slots (2 * n) atom ≡ true) × (has_atom areas (area_of interfaces n) atom ≡ true)

-- the atom goes out at interface n, in whose device it can be
abbrev pub Leaves : List Interface → List (List Bool) → List (List Bool) → ℕ → ℕ → Type 0
Leaves interfaces slots devices n atom = (has_atom slots (2 * n + 1) atom ≡ true) × (has_atom devices (device_of interfaces n) atom ≡ true)

-- set `at` has the atoms of P more, and nothing else is changed
pub record Adds (P : ℕ → Type 0) (at : ℕ) (before after : List (List Bool)) : Type 0 where
  pub widths : (w : ℕ) → AllHaveLength w before → AllHaveLength w after
  pub kept : (k atom : ℕ) → has_atom before k atom ≡ true → has_atom after k atom ≡ true
  pub all : (atom : ℕ) → P atom → has_atom after at atom ≡ true
  pub only : (k atom : ℕ) → has_atom after k atom ≡ true → (has_atom before k atom ≡ true) ⊎ (P atom × (at ≡ k))

-- for each of the first n the set `to n` has the atoms of P n more, and nothing else is changed
pub record AreAdded (P : ℕ → ℕ → Type 0) (to : ℕ → ℕ) (first : ℕ) (before after : List (List Bool)) : Type 0 where
  pub widths : (w : ℕ) → AllHaveLength w before → AllHaveLength w after
  pub kept : (k atom : ℕ) → has_atom before k atom ≡ true → has_atom after k atom ≡ true
  pub all : (n atom : ℕ) → n < first → P n atom → has_atom after (to n) atom ≡ true
  pub only : (k atom : ℕ) → has_atom after k atom ≡ true → (has_atom before k atom ≡ true) ⊎ ((n : ℕ) × (n < first) × P n atom × (to n ≡ k))

-- each set that has an atom more is marked
abbrev pub AreMarked : List (List Bool) → List (List Bool) → List Bool → Type 0
AreMarked before after marks =
    (k atom : ℕ) → has_atom after k atom ≡ true → (has_atom before k atom ≡ true) ⊎ (has_member marks k ≡ true)

-- what was marked still is
abbrev pub StayMarked : List Bool → List Bool → Type 0
StayMarked before after = (k : ℕ) → has_member before k ≡ true → has_member after k ≡ true

-- where set `by n` is not marked, set `to n` has the atoms of P n already
abbrev pub IsDone : (ℕ → ℕ → Type 0) → (ℕ → ℕ) → (ℕ → ℕ) → List Bool → List (List Bool) → ℕ → Type 0
IsDone P by to marks sets n = (atom : ℕ) → has_member marks (by n) ≡ false → P n atom → has_atom sets (to n) atom ≡ true

-- the same of each of the first n
abbrev pub AreDone : (ℕ → ℕ → Type 0) → (ℕ → ℕ) → (ℕ → ℕ) → ℕ → List Bool → List (List Bool) → Type 0
AreDone P by to first marks sets = (n : ℕ) → n < first → IsDone P by to marks sets n

-- the atom stands on area a: it starts there, or reaches it
abbrev pub StandsOn : ℕ → List (List Bool) → ℕ → ℕ → Type 0
StandsOn from areas a atom = (a ≡ from) ⊎ (has_atom areas a atom ≡ true)

-- the atom stands where interface n lets it in
abbrev pub ComesIn : List Interface → List (List Bool) → ℕ → List (List Bool) → ℕ → ℕ → Type 0
ComesIn interfaces slots from areas n atom = (has_atom slots (2 * n) atom ≡ true) × StandsOn from areas (area_of interfaces n) atom

-- a device has exactly the atoms that come in at one of its interfaces
pub record AreEntered (interfaces : List Interface) (slots : List (List Bool)) (from : ℕ) (areas devices : List (List Bool)) : Type 0 where
  pub all : (n atom : ℕ) → n < length interfaces → ComesIn interfaces slots from areas n atom → has_atom devices (device_of interfaces n) atom ≡ true
  pub only : (d atom : ℕ) → has_atom devices d atom ≡ true → (n : ℕ) × (n < length interfaces) × ComesIn interfaces slots from areas n atom × (device_of interfaces n ≡ d)

-- each atom of an area's set reaches the area
abbrev pub AreReached : List Interface → List (List Bool) → ℕ → List (List Bool) → Type 0
AreReached interfaces slots from areas = (a atom : ℕ) → has_atom areas a atom ≡ true → Reaches interfaces (lets_atom slots atom) from a

-- each atom that reaches an area is in the area's set
abbrev pub HoldReached : List Interface → List (List Bool) → ℕ → List (List Bool) → Type 0
HoldReached interfaces slots from areas = (a atom : ℕ) → Reaches interfaces (lets_atom slots atom) from a → has_atom areas a atom ≡ true
