-- Drops that are walked along with the slots.
use Rattle.std.specs.Prelude.{ℕ, ◌+◌, ◌^◌, ◌<◌, ◌≤◌, List, length, slice_index_or}
use Rattle.np_net.specs.declared.filtering.Interface.{Interface}
use Rattle.np_synth.specs.Dropping.{nothing}
use Rattle.np_synth.specs.declared.chosen.Dropped.{Dropped}
use Rattle.np_report.specs.Synthesis.{HopsWithin}

-- the slot of the drop of this index
abbrev pub slot_at : List Dropped → ℕ → ℕ
slot_at drops n = (slice_index_or drops n nothing).slot

-- the drops stand by slot
abbrev pub AreBySlot : List Dropped → Type 0
AreBySlot drops = (m n : ℕ) → m < n → n < length drops → slot_at drops m ≤ slot_at drops n

-- so many drops are at the slots before this one, and the others aren't
pub record AreBefore (slot n : ℕ) (drops : List Dropped) : Type 0 where
  pub within : n ≤ length drops
  pub before : (k : ℕ) → k < n → slot_at drops k < slot
  pub behind : (k : ℕ) → n ≤ k → k < length drops → slot ≤ slot_at drops k

-- the path of a drop has interfaces that there are, and its numbers have ones after them
pub record IsWritable (interfaces : List Interface) (d : Dropped) : Type 0 where
  pub hops : HopsWithin interfaces d.path.hops
  pub atom : d.atom + 1 < 2 ^ 64
  pub goal : d.goal + 1 < 2 ^ 64
