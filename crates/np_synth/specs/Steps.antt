-- What the steps of synthesis know, atom by atom.
use Rattle.std.specs.Prelude.{◌≡◌, ◌↔◌, ◌⊎◌, ℕ, ◌*◌, ◌<◌, ◌≤◌, Bool, true, false, not, List, [], length, slice_index_or}
use Rattle.np_atomset.specs.AtomSet.{has_member}
use Rattle.np_net.specs.Plan.{Plan}
use Rattle.np_net.specs.declared.filtering.Goal.{Goal}
use Rattle.np_net.specs.declared.filtering.Interface.{Interface}
use Rattle.np_flow.specs.Postures.{lets_atom, AllHaveLength}
use Rattle.np_flow.specs.Carrying.{IsFirstPath}
use Rattle.np_goals.specs.Cases.{goal_at}
use Rattle.np_goals.specs.Judging.{IsLeastNumber}
use Rattle.np_goals.specs.declared.cases.Case.{Case}
use Rattle.np_synth.specs.Choosing.{is_free, opened, so_far, IsBroken, BreaksSome, IsFirstBroken}
use Rattle.np_synth.specs.Dropping.{IsEarlier, IsDropped, nothing}
use Rattle.np_synth.specs.Synthesis.{bad_for, shut_for}
use Rattle.np_synth.specs.declared.chosen.Dropped.{Dropped}

-- ---- sets

-- a set of so many atoms for each slot
pub record AreSlots (interfaces : List Interface) (atoms : ℕ) (slots : List (List Bool)) : Type 0 where
  pub two_each : length slots ≡ 2 * length interfaces
  pub sizes : AllHaveLength atoms slots

-- the atoms that both sets have, of as many as the first one has
pub record AreCommon (xs ys set : List Bool) : Type 0 where
  pub size : length set ≡ length xs
  pub both : (atom : ℕ) → has_member set atom ≡ true → (has_member xs atom ≡ true) × (has_member ys atom ≡ true)
  pub all : (atom : ℕ) → has_member xs atom ≡ true → has_member ys atom ≡ true → has_member set atom ≡ true

-- the atoms that a set doesn't have, of as many as it has
pub record AreOthers (set others : List Bool) : Type 0 where
  pub size : length others ≡ length set
  pub has : (atom : ℕ) → atom < length set → has_member others atom ≡ not (has_member set atom)

-- ---- goals that are broken

-- the atom breaks the goal of this number, where the slots have these sets
abbrev pub Breaks : Plan → Case → List (List Bool) → ℕ → ℕ → Type 0
Breaks net case slots k atom = IsBroken net.interfaces net.goals (bad_for case.bad atom) (lets_atom slots atom) k

-- the atoms that break this goal
pub record AreBreaking (net : Plan) (case : Case) (slots : List (List Bool)) (k : ℕ) (set : List Bool) : Type 0 where
  pub size : length set ≡ length case.leasts
  pub exact : (atom : ℕ) → (has_member set atom ≡ true) ↔ Breaks net case slots k atom

-- the atoms that break one of the first n goals
pub record AreBreakingSome (net : Plan) (case : Case) (slots : List (List Bool)) (n : ℕ) (set : List Bool) : Type 0 where
  pub size : length set ≡ length case.leasts
  pub all : (k atom : ℕ) → k < n → Breaks net case slots k atom → has_member set atom ≡ true
  pub only : (atom : ℕ) → has_member set atom ≡ true → (k : ℕ) × (k < n) × Breaks net case slots k atom

-- these hops are the first path of this goal that may be crossed by the atom
abbrev pub IsPathOf : Plan → List (List Bool) → ℕ → ℕ → List (ℕ × ℕ) → Type 0
IsPathOf net slots k atom hops = (d : Goal) → IsFirstPath net.interfaces (lets_atom slots atom) (goal_at net.goals d k).from hops (goal_at net.goals d k).to

-- no atom breaks one of the first n goals
abbrev pub AreMet : Plan → Case → List (List Bool) → ℕ → Type 0
AreMet net case slots n = (k atom : ℕ) → k < n → Breaks net case slots k atom → ⊥

-- this goal is the first that some atom breaks, and this atom the least that does
pub record IsFirstBreaking (net : Plan) (case : Case) (slots : List (List Bool)) (k atom : ℕ) : Type 0 where
  pub within : atom < length case.leasts
  pub least : IsLeastNumber (Breaks net case slots k) atom
  pub first : AreMet net case slots k

-- ---- slots that are chosen

-- the sets of the first n slots, where the free ones are shut and the others are those of the case
pub record AreShut (net : Plan) (case : Case) (n : ℕ) (slots : List (List Bool)) : Type 0 where
  pub count : length slots ≡ n
  pub sizes : AllHaveLength (length case.leasts) slots
  pub lets : (s atom : ℕ) → s < n → lets_atom slots atom s ≡ shut_for net case atom s

-- the sets after one slot is opened for all of so many atoms
pub record IsOpened (interfaces : List Interface) (atoms slot : ℕ) (before after : List (List Bool)) : Type 0 where
  pub slots : AreSlots interfaces atoms after
  pub lets : (s atom : ℕ) → s < 2 * length interfaces → atom < atoms → lets_atom after atom s ≡ opened (lets_atom before atom) slot s

-- the sets after one slot is filled with the atoms that break no goal while it lets them cross
pub record IsFilled (net : Plan) (case : Case) (slot : ℕ) (before after : List (List Bool)) : Type 0 where
  pub slots : AreSlots net.interfaces (length case.leasts) after
  pub others : (s atom : ℕ) → (s ≡ slot → ⊥) → lets_atom after atom s ≡ lets_atom before atom s
  pub opens : (atom : ℕ) → atom < length case.leasts → lets_atom after atom slot ≡ true → BreaksSome net.interfaces net.goals (bad_for case.bad atom) (opened (lets_atom before atom) slot) → ⊥
  pub closed : (atom : ℕ) → atom < length case.leasts → lets_atom after atom slot ≡ false → BreaksSome net.interfaces net.goals (bad_for case.bad atom) (opened (lets_atom before atom) slot)

-- the atom breaks some goal while this slot is open, the free slots before it are as they are, and those after it are shut
abbrev pub BreaksAt : Plan → Case → List (List Bool) → ℕ → ℕ → Type 0
BreaksAt net case slots s atom = BreaksSome net.interfaces net.goals (bad_for case.bad atom) (opened (so_far net.free (lets_atom case.posture.slots atom) (lets_atom slots atom) s) s)

-- the first n slots are chosen, and the free ones after them are shut
pub record AreChosen (net : Plan) (case : Case) (n : ℕ) (slots : List (List Bool)) : Type 0 where
  pub slots_are : AreSlots net.interfaces (length case.leasts) slots
  pub fixed : (s atom : ℕ) → s < 2 * length net.interfaces → is_free net.free s ≡ false → lets_atom slots atom s ≡ lets_atom case.posture.slots atom s
  pub later : (s atom : ℕ) → s < 2 * length net.interfaces → n ≤ s → is_free net.free s ≡ true → lets_atom slots atom s ≡ false
  pub opens : (s atom : ℕ) → s < n → atom < length case.leasts → is_free net.free s ≡ true → lets_atom slots atom s ≡ true → BreaksAt net case slots s atom → ⊥
  pub closed : (s atom : ℕ) → s < n → atom < length case.leasts → is_free net.free s ≡ true → lets_atom slots atom s ≡ false → BreaksAt net case slots s atom

-- ---- what is dropped

-- some goal is broken once a free slot is opened for an atom that it drops
abbrev pub IsFull : Plan → Case → List (List Bool) → Type 0
IsFull net case slots = (slot atom : ℕ) → slot < 2 * length net.interfaces → atom < length case.leasts → is_free net.free slot ≡ true → lets_atom slots atom slot ≡ false → BreaksSome net.interfaces net.goals (bad_for case.bad atom) (opened (lets_atom slots atom) slot)

-- for each of the first n goals the atoms that break it
pub record AreBreakingEach (net : Plan) (case : Case) (slots : List (List Bool)) (n : ℕ) (sets : List (List Bool)) : Type 0 where
  pub count : length sets ≡ n
  pub each : (k : ℕ) → k < n → AreBreaking net case slots k (slice_index_or sets k [])

-- the set of this number has the atom
abbrev pub IsIn : List (List Bool) → ℕ → ℕ → Type 0
IsIn sets atom k = (k < length sets) × (lets_atom sets atom k ≡ true)

-- a slot is opened for all atoms, and these break the goals then
pub record IsOpening (net : Plan) (case : Case) (before : List (List Bool)) (slot : ℕ) (after breaking : List (List Bool)) : Type 0 where
  pub place : slot < 2 * length net.interfaces
  pub opens : IsOpened net.interfaces (length case.leasts) slot before after
  pub breaking_is : AreBreakingEach net case after (length net.goals) breaking

-- what a slot drops of an atom, by the posture in which the slot is opened
pub record IsDropOf (net : Plan) (case : Case) (after : List (List Bool)) (slot atom : ℕ) (drop : Dropped) : Type 0 where
  pub slot_is : drop.slot ≡ slot
  pub atom_is : drop.atom ≡ atom
  pub broken : IsFirstBroken net.interfaces net.goals (bad_for case.bad atom) (lets_atom after atom) drop.goal
  pub path : IsPathOf net after drop.goal atom drop.path.hops

-- one slot and atom stand before others: at an earlier slot, or at the same one with an earlier atom
abbrev pub IsBefore : ℕ → ℕ → ℕ → ℕ → Type 0
IsBefore slot atom s a = (slot < s) ⊎ ((slot ≡ s) × (atom < a))

-- all that is dropped before a slot and an atom
pub record AreDroppedBefore (net : Plan) (case : Case) (slots : List (List Bool)) (slot atom : ℕ) (drops : List Dropped) : Type 0 where
  pub each : (n : ℕ) → n < length drops → ((slice_index_or drops n nothing).atom < length case.leasts) × IsDropped net.interfaces net.goals (bad_for case.bad (slice_index_or drops n nothing).atom) net.free (lets_atom slots (slice_index_or drops n nothing).atom) (slice_index_or drops n nothing).slot (slice_index_or drops n nothing).goal (slice_index_or drops n nothing).path.hops
  pub before : (n : ℕ) → n < length drops → IsBefore (slice_index_or drops n nothing).slot (slice_index_or drops n nothing).atom slot atom
  pub ascending : (m n : ℕ) → m < n → n < length drops → IsEarlier (slice_index_or drops m nothing) (slice_index_or drops n nothing)
  pub all : (s a : ℕ) → IsBefore s a slot atom → s < 2 * length net.interfaces → a < length case.leasts → is_free net.free s ≡ true → lets_atom slots a s ≡ false → (n : ℕ) × (n < length drops) × ((slice_index_or drops n nothing).slot ≡ s) × ((slice_index_or drops n nothing).atom ≡ a)
