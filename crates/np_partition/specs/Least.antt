-- The least headers known to come to the places of a diagram, while they are handed on from the root to the classes.
use Rattle.std.specs.Prelude.{◌≡◌, ◌≢◌, ℕ, ◌≤◌, ◌<◌, false, IsTrue, ◌⊎◌, List, length, Option, Some, None, slice_index_or, if◌then◌else◌}
use Rattle.np_space.specs.Header.{HasWidths, header_le}
use Rattle.np_space.specs.declared.headers.Header.{Header}
use Rattle.np_bdd.specs.Views.{Bits, bits_of_header}
use Rattle.np_bdd.specs.Walking.{AgreeBelow}
use Rattle.np_partition.specs.Diagram.{class_at, bit_at}
use Rattle.np_partition.specs.Partition.{class_of}
use Rattle.np_partition.specs.declared.partition.Partition.{Partition}

-- the header that a slot has, if it has one
abbrev pub slot_at : List (Option Header) → ℕ → Option Header
slot_at slots n = slice_index_or slots n None

-- as many slots, none of which has a header
pub record AreFree (n : ℕ) (slots : List (Option Header)) : Type 0 where
  pub count : length slots ≡ n
  pub each : (k : ℕ) → slot_at slots k ≡ None

-- the lesser of the header that a slot has, if it has one, and another
abbrev pub lesser : Option Header → Header → Header
lesser None x = x
lesser (Some y) x = if header_le y x then y else x

-- a header was offered to a slot, which now has the lesser of it and the header that it had
pub record IsOffered (n : ℕ) (x : Header) (old new : List (Option Header)) : Type 0 where
  pub count : length new ≡ length old
  pub others : (k : ℕ) → k ≢ n → slot_at new k ≡ slot_at old k
  pub here : slot_at new n ≡ Some (lesser (slot_at old n) x)

-- bits that agree with the header's before the bit that the place tests come to the place, and the header's are 0 from that bit on
pub record IsWayTo (p : Partition) (at : ℕ) (x : Header) : Type 0 where
  pub widths : HasWidths x
  pub clear : (i : ℕ) → bit_at p.shows at ≤ i → i < 111 → bits_of_header x i ≡ false
  pub comes : (bits : Bits) → AgreeBelow (bit_at p.shows at) bits (bits_of_header x) → class_at bits p.shows p.root ≡ class_at bits p.shows at

-- the header's bits lead to its class from a place before this one too, and the place has a header that is at most this one
pub record WaitsBefore (p : Partition) (at : ℕ) (places : List (Option Header)) (h : Header) : Type 0 where
  pub place : ℕ
  pub early : place < at
  pub first : Header
  pub stands : slot_at places place ≡ Some first
  pub leads : class_of p h ≡ class_at (bits_of_header h) p.shows place
  pub least : IsTrue (header_le first h)

-- the header's class has a header that is at most this one
pub record HasArrived (p : Partition) (leasts : List (Option Header)) (h : Header) : Type 0 where
  pub first : Header
  pub stands : slot_at leasts (class_of p h) ≡ Some first
  pub least : IsTrue (header_le first h)

-- each place before this one has a header that comes to it or none, and so has each class; and each header waits at such a place for
-- a header that is at most it, or its class has one
pub record AreHandedOn (p : Partition) (at : ℕ) (places leasts : List (Option Header)) : Type 0 where
  pub all : length places ≡ length p.shows
  pub count : length leasts ≡ p.classes
  pub ways : (place : ℕ) (x : Header) → place < at → slot_at places place ≡ Some x → IsWayTo p place x
  pub members : (n : ℕ) (x : Header) → slot_at leasts n ≡ Some x → HasWidths x × (class_of p x ≡ n)
  pub each : (h : Header) → HasWidths h → WaitsBefore p at places h ⊎ HasArrived p leasts h
