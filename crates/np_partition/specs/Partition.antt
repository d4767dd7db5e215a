-- What a partition says of headers.
use Rattle.std.specs.Prelude.{◌≡◌, ◌↔◌, ℕ, ◌<◌, Bool, ◌==◌, ◌&&◌, IsTrue, List, length, map, Option, Some, None, slice_index_or}
use Rattle.std.specs.List.{All}
use Rattle.np_space.specs.Classes.{cuts_say}
use Rattle.np_space.specs.Header.{HasWidths, header_le}
use Rattle.np_space.specs.declared.headers.Header.{Header}
use Rattle.np_atomset.specs.AtomSet.{has_member}
use Rattle.np_bdd.specs.Views.{bits_of_header}
use Rattle.np_partition.specs.Diagram.{class_at, IsDiagram}
use Rattle.np_partition.specs.declared.partition.Partition.{Partition}

-- the class that a header is in
abbrev pub class_of : Partition → Header → ℕ
class_of p h = class_at (bits_of_header h) p.shows p.root

-- what the tests say of the headers of a class, by the sets of classes that they have
abbrev pub row : List (List Bool) → ℕ → List Bool
row sets n = map (λ set. has_member set n) sets

-- the classes are those that the tests tell apart, among all headers whose fields are of their widths, valid or not
pub record IsPartition (tests : List (Header → Bool)) (p : Partition) : Type 0 where
  pub diagram : IsDiagram p.shows
  pub there : p.root < length p.shows
  -- each header is in one of the classes, of which the sets say what the tests say of the header
  pub within : (h : Header) → HasWidths h → class_of p h < p.classes
  pub says : (h : Header) → HasWidths h → row p.sets (class_of p h) ≡ cuts_say tests h
  -- the sets are sets of the classes, and tell any two of them apart
  pub sizes : All (λ set. length set ≡ p.classes) p.sets
  pub apart : (m n : ℕ) → m < p.classes → n < p.classes → row p.sets m ≡ row p.sets n → m ≡ n

-- ---- least members

-- the least header of a class, whether it is valid or not, or that the class is without headers
abbrev pub IsLeastMember : Partition → ℕ → Option Header → Type 0
IsLeastMember p n None = (h : Header) → HasWidths h → class_of p h ≡ n → ⊥
IsLeastMember p n (Some x) = HasWidths x × (class_of p x ≡ n) × ((h : Header) → HasWidths h → class_of p h ≡ n → IsTrue (header_le x h))

-- the least header of each class
pub record AreLeastMembers (p : Partition) (leasts : List (Option Header)) : Type 0 where
  pub count : length leasts ≡ p.classes
  pub each : (n : ℕ) → n < p.classes → IsLeastMember p n (slice_index_or leasts n None)
