-- What the steps that build a diagram say of its places, for any bits.
use Rattle.std.specs.Prelude.{◌≡◌, ℕ, ◌+◌, ◌≤◌, ◌<◌, List, length, if◌then◌else◌}
use Rattle.np_bdd.specs.Views.{Bits}
use Rattle.np_partition.specs.declared.shows.Show.{Show}
use Rattle.np_partition.specs.Diagram.{class_at, bit_at}

-- the earlier places are kept: they test what they tested, and the bits lead from them to the same classes
pub record KeepsPlaces (old new : List Show) : Type 0 where
  pub there : (at : ℕ) → at < length old → at < length new
  pub bit : (at : ℕ) → at < length old → bit_at new at ≡ bit_at old at
  pub same : (at : ℕ) → at < length old → (bits : Bits) → class_at bits new at ≡ class_at bits old at

-- a place that stands in the list, and tests no bit before this one
pub record StartsAt (shows : List Show) (bit at : ℕ) : Type 0 where
  pub there : at < length shows
  pub from : bit ≤ bit_at shows at

-- a place that tests no bit, and from which all bits lead to the class
pub record IsPlaceOfClass (shows : List Show) (n at : ℕ) : Type 0 where
  pub starts : StartsAt shows 111 at
  pub leads : (bits : Bits) → class_at bits shows at ≡ n

-- from a place the bits lead where they lead from one place or another, as this bit of them says
abbrev pub Chooses : List Show → ℕ → ℕ → ℕ → ℕ → Type 0
Chooses shows bit low high at = (bits : Bits) → class_at bits shows at ≡ (if bits bit then class_at bits shows high else class_at bits shows low)

-- two branches, both past the bit, between which the place chooses by it
pub record IsSplit (shows : List Show) (bit low high at : ℕ) : Type 0 where
  pub low_starts : StartsAt shows (1 + bit) low
  pub high_starts : StartsAt shows (1 + bit) high
  pub chooses : Chooses shows bit low high at
