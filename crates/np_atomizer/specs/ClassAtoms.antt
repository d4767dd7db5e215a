-- Atoms that are classes of a partition: the classes of valid headers that have a member.
use Rattle.std.specs.Prelude.{◌≡◌, ◌↔◌, ℕ, ◌<◌, ◌==◌, ◌&&◌, Bool, true, nat_lt, List, [], ◌∷◌, length, sum_by, Option, None, Some, slice_index_or}
use Rattle.std.specs.List.{All}
use Rattle.std.specs.Option.{is_some}
use Rattle.np_space.specs.Flag.{flag_number}
use Rattle.np_space.specs.Header.{is_valid_header, IsValid, HasWidths}
use Rattle.np_space.specs.declared.headers.Header.{Header}
use Rattle.np_atomset.specs.AtomSet.{has_member}
use Rattle.np_partition.specs.Diagram.{IsDiagram}
use Rattle.np_partition.specs.Partition.{class_of, IsPartition}
use Rattle.np_partition.specs.declared.partition.Partition.{Partition}
use Rattle.np_atoms.specs.Atoms.{AreAtoms}
use Rattle.np_atomizer.specs.Numbers.{AreNumbers}
use Rattle.np_atomizer.specs.Splitting.{AreInOrder}
use Rattle.np_atomizer.specs.declared.atom_list.Atom.{Atom}
use Rattle.np_atomizer.specs.declared.atomizer.Atomized.{Atomized}
use Rattle.np_atomizer.specs.declared.diagrams.PartitionClasses.{PartitionClasses}

-- ---- partitions that tell valid headers

-- the classes are those that validity and some more tests tell apart
pub record TellsValid (p : Partition) : Type 0 where
  pub tests : List (Header → Bool)
  pub is : IsPartition (is_valid_header ∷ tests) p

-- the classes of valid headers
abbrev pub valid_classes : Partition → List Bool
valid_classes p = slice_index_or p.sets 0 []

-- the header is valid and in the class
abbrev pub class_has : Partition → ℕ → Header → Bool
class_has p n h = is_valid_header h && (class_of p h == n)

-- ---- the atoms, one after another

-- a class that is one of the set's, with its least member
pub record IsListed (set : List Bool) (leasts : List (Option Header)) (a : Atom ℕ) : Type 0 where
  pub within : a.region < length leasts
  pub member : has_member set a.region ≡ true
  pub least : slice_index_or leasts a.region None ≡ Some a.least

-- the class is one of the set's before the n-th, and has a least member
abbrev pub is_listed : List Bool → List (Option Header) → ℕ → ℕ → Bool
is_listed set leasts n k = nat_lt k n && has_member set k && is_some (slice_index_or leasts k None)

-- those of the first n classes that are the set's and have a least member, each once
pub record AreListed (set : List Bool) (leasts : List (Option Header)) (n : ℕ) (atoms : List (Atom ℕ)) : Type 0 where
  pub each : All (IsListed set leasts) atoms
  pub count : (k : ℕ) → sum_by (λ a. flag_number (k == a.region)) atoms ≡ flag_number (is_listed set leasts n k)

-- ---- the numbers of the atoms

-- no class stands in the list twice
abbrev pub StandsOnce : List ℕ → Type 0
StandsOnce classes = (i j : ℕ) → i < length classes → j < length classes → slice_index_or classes i 0 ≡ slice_index_or classes j 0 → i ≡ j

-- each of the first n classes of the list has the number of its place
abbrev pub AreNumbered : List ℕ → ℕ → List ℕ → Type 0
AreNumbered classes n numbers = (i : ℕ) → i < n → slice_index_or numbers (slice_index_or classes i 0) 0 ≡ i

-- ---- the atoms of the tests

-- it is one of the partition's classes
abbrev pub IsClassOf : Partition → ℕ → Type 0
IsClassOf p n = n < p.classes

-- the class is one of valid headers, and the least member is in it
pub record IsClassAtom (p : Partition) (a : Atom ℕ) : Type 0 where
  pub within : a.region < p.classes
  pub valid : has_member (valid_classes p) a.region ≡ true
  pub widths : HasWidths a.least
  pub own : class_of p a.least ≡ a.region

-- the atoms of the tests in the order of their least members, each of which is a class
pub record AreClassAtoms (p : Partition) (tests : List (Header → Bool)) (atoms : List (Atom ℕ)) : Type 0 where
  pub ordered : AreInOrder IsClassOf class_has p tests atoms
  pub each : All (IsClassAtom p) atoms

-- ---- what keeps the atoms

-- the number of the atom that the header is in
abbrev pub number_of_class : PartitionClasses → Header → ℕ
number_of_class c h = slice_index_or c.numbers.items (class_of c.partition h) 0

-- each header is led to a class, and the classes of the atoms are those of valid headers, with the atoms' numbers
pub record KeepsAtoms (c : PartitionClasses) : Type 0 where
  pub diagram : IsDiagram c.partition.shows
  pub there : c.partition.root < length c.partition.shows
  pub within : (h : Header) → HasWidths h → class_of c.partition h < length c.numbers.items
  pub exact : (h : Header) (n : ℕ) → HasWidths h → n < length c.classes.items → (class_of c.partition h ≡ slice_index_or c.classes.items n 0) ↔ (IsValid h × (number_of_class c h ≡ n))

-- all that is read of a partition by validity and the tests: the atoms, and what keeps them
pub record AreRead (tests : List (Header → Bool)) (r : Atomized PartitionClasses) : Type 0 where
  pub atoms : AreAtoms tests r.atoms
  pub classes : KeepsAtoms r.classes
  pub count : length r.classes.classes.items ≡ length r.atoms.leasts
  pub numbers : AreNumbers tests r.atoms.leasts (number_of_class r.classes)
