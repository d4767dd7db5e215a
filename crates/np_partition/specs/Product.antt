-- What a partition is made of whose classes are pairs of the classes of two others.
use Rattle.std.specs.Prelude.{◌≡◌, ℕ, ◌<◌, Bool, List, ◌++◌, length, map, slice_get, Some}
use Rattle.np_atomset.specs.AtomSet.{has_member}
use Rattle.np_bdd.specs.Views.{Bits}
use Rattle.np_partition.specs.declared.partition.Partition.{Partition}
use Rattle.np_partition.specs.Diagram.{class_at, IsDiagram}
use Rattle.np_partition.specs.Pairing.{classes_at, AreReached}

-- whether the set has each of the numbers
abbrev pub members_at : List Bool → List ℕ → List Bool
members_at set numbers = map (λ n. has_member set n) numbers

-- the same of each of the sets
abbrev pub sets_at : List (List Bool) → List ℕ → List (List Bool)
sets_at sets numbers = map (λ set. members_at set numbers) sets

-- the first number of each pair, and the second one
abbrev pub firsts : List (ℕ × ℕ) → List ℕ
firsts pairs = map (λ pair. pair.0) pairs

abbrev pub seconds : List (ℕ × ℕ) → List ℕ
seconds pairs = map (λ pair. pair.1) pairs

-- the classes stand for pairs, each for one of its own: bits lead to the class of the pair of classes to which they lead in
-- the other two, each pair is so reached by some bits, and the sets are those of both, class by class
pub record IsProduct (first second : Partition) (pairs : List (ℕ × ℕ)) (p : Partition) : Type 0 where
  pub diagram : IsDiagram p.shows
  pub there : p.root < length p.shows
  pub exact : (bits : Bits) → slice_get pairs (class_at bits p.shows p.root) ≡ Some (classes_at bits first.shows second.shows first.root second.root)
  pub reached : (n : ℕ) (pair : ℕ × ℕ) → slice_get pairs n ≡ Some pair → AreReached first.shows second.shows first.root second.root pair
  pub unique : (m n : ℕ) (pair : ℕ × ℕ) → slice_get pairs m ≡ Some pair → slice_get pairs n ≡ Some pair → m ≡ n
  pub classes : p.classes ≡ length pairs
  pub sets : p.sets ≡ sets_at first.sets (firsts pairs) ++ sets_at second.sets (seconds pairs)
