-- What the steps say that make one diagram of two, whose classes are pairs of theirs.
use Rattle.std.specs.Prelude.{◌≡◌, ℕ, ◌≤◌, ◌<◌, Bool, ◌==◌, ◌&&◌, List, length, slice_get, Option, Some, min, ◌⊎◌}
use Rattle.std.specs.HashMap.{get}
use Rattle.np_bdd.specs.Views.{Bits}
use Rattle.np_partition.specs.declared.shows.Show.{Show}
use Rattle.np_partition.specs.declared.pairing.Pairing.{Pairing}
use Rattle.np_partition.specs.declared.pair_memo.PairMemo.{PairMemo}
use Rattle.np_partition.specs.declared.product.Halves.{Halves}
use Rattle.np_partition.specs.Diagram.{class_at, bit_at}
use Rattle.np_partition.specs.Places.{KeepsPlaces, StartsAt, IsSplit}

-- ---- two diagrams

-- the classes to which the bits lead from a place of each
abbrev pub classes_at : Bits → List Show → List Show → ℕ → ℕ → ℕ × ℕ
classes_at bits first second x y = (class_at bits first x, class_at bits second y)

-- some bits lead from the two places to the two classes
pub record AreReached (first second : List Show) (x y : ℕ) (pair : ℕ × ℕ) : Type 0 where
  pub bits : Bits
  pub exact : classes_at bits first second x y ≡ pair

-- the lesser of the bits that the two places test
abbrev pub lesser_bit : List Show → List Show → ℕ → ℕ → ℕ
lesser_bit first second x y = min (bit_at first x) (bit_at second y)

-- the two places split at the lesser of their bits
pub record AreHalves (first second : List Show) (x y : ℕ) (halves : Halves) : Type 0 where
  pub bit : halves.bit ≡ lesser_bit first second x y
  pub fits : halves.bit < 111
  pub in_first : IsSplit first halves.bit halves.x.low halves.x.high x
  pub in_second : IsSplit second halves.bit halves.y.low halves.y.high y

-- ---- the diagram that is made of them

-- the pair that a class stands for
abbrev pub pair_of : Pairing → ℕ → Option (ℕ × ℕ)
pair_of pairing n = slice_get pairing.pairs.keys n

-- the earlier places and classes are kept
pub record KeepsPairing (old new : Pairing) : Type 0 where
  pub places : KeepsPlaces old.places new.places
  pub pairs : (n : ℕ) (pair : ℕ × ℕ) → pair_of old n ≡ Some pair → pair_of new n ≡ Some pair

-- a place that tests no bit, and from which all bits lead to the class of the pair
pub record IsPlaceOfPair (pairing : Pairing) (pair : ℕ × ℕ) (at : ℕ) : Type 0 where
  pub starts : StartsAt pairing.places 111 at
  pub leads : (bits : Bits) → pair_of pairing (class_at bits pairing.places at) ≡ Some pair

-- a place from which bits lead to the class of the pair of classes to which they lead from the other two; it tests no bit
-- before both of theirs
pub record IsPaired (first second : List Show) (x y : ℕ) (pairing : Pairing) (z : ℕ) : Type 0 where
  pub there : z < length pairing.places
  pub from : (bit : ℕ) → bit ≤ bit_at first x → bit ≤ bit_at second y → bit ≤ bit_at pairing.places z
  pub exact : (bits : Bits) → pair_of pairing (class_at bits pairing.places z) ≡ Some (classes_at bits first second x y)

-- each new class stands for this pair
pub record AddsAtMost (pair : ℕ × ℕ) (old new : Pairing) : Type 0 where
  pub only : (n : ℕ) (other : ℕ × ℕ) → pair_of new n ≡ Some other → (pair_of old n ≡ Some other) ⊎ (pair ≡ other)

-- each new class stands for a pair of classes to which some bits lead from the two places
pub record AddsReached (first second : List Show) (x y : ℕ) (old new : Pairing) : Type 0 where
  pub only : (n : ℕ) (pair : ℕ × ℕ) → pair_of new n ≡ Some pair → (pair_of old n ≡ Some pair) ⊎ AreReached first second x y pair

-- each class stands for a pair of classes to which some bits lead from the two places
pub record AreAllReached (first second : List Show) (x y : ℕ) (pairing : Pairing) : Type 0 where
  pub each : (n : ℕ) (pair : ℕ × ℕ) → pair_of pairing n ≡ Some pair → AreReached first second x y pair

-- ---- the memo

-- the same first number, and the same second one
abbrev pub same_pair : ℕ × ℕ → ℕ × ℕ → Bool
same_pair p q = (p.0 == q.0) && (p.1 == q.1)

-- the place that the memo keeps for two places
abbrev pub place_for : PairMemo → ℕ → ℕ → Option ℕ
place_for memo x y = get same_pair memo.places (x, y)

-- each place of the memo is the one that was made for its two places
pub record IsPairMemo (first second : List Show) (pairing : Pairing) (memo : PairMemo) : Type 0 where
  pub exact : (x y z : ℕ) → place_for memo x y ≡ Some z → IsPaired first second x y pairing z

-- the memo keeps no place but those that it had, and perhaps this one
pub record Learns (old new : PairMemo) (x y z : ℕ) : Type 0 where
  pub only : (p q r : ℕ) → place_for new p q ≡ Some r → (place_for old p q ≡ Some r) ⊎ ((p ≡ x) × (q ≡ y) × (r ≡ z))
