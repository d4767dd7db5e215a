-- How classes are made by cutting regions, over any store.
use Rattle.std.specs.Prelude.{◌≡◌, ◌++◌, ◌∷◌, [], ℕ, Bool, false, IsTrue, List, sum_by}
use Rattle.std.specs.List.{All, position_or_len}
use Rattle.np_space.specs.Flag.{flag_number}
use Rattle.np_space.specs.Header.{is_valid_header, IsValid, IsLeast}
use Rattle.np_space.specs.declared.headers.Header.{Header}
use Rattle.np_region.specs.Keeping.{EachFits}
use Rattle.np_space.specs.Classes.{IsAlike, AreLeasts}
use Rattle.np_atomizer.specs.Numbers.{AreNumbers}
use Rattle.np_atomizer.specs.AtomList.{regions_of, leasts_of}
use Rattle.np_atomizer.specs.declared.atom_list.Atom.{Atom}

-- ---- what stands in the clauses of the store of lists

-- regions that fit, of which each valid header is in exactly one and no other header in any
pub record DivideValid {R : Type 0} (fits : R → Type 0) (has : R → Header → Bool) (regions : List R) : Type 0 where
  pub fit : All fits regions
  pub count : (h : Header) → sum_by (λ r. flag_number (has r h)) regions ≡ flag_number (is_valid_header h)

-- the number of the first region that has the header, and how many regions there are where none has it
abbrev pub number_in : {R : Type 0} → (R → Header → Bool) → List R → Header → ℕ
number_in has regions h = position_or_len (λ r. has r h) regions

-- ---- what holds of the classes while they are cut, which no public clause says

-- how many of the regions have the header
abbrev pub count_having : {S R : Type 0} → (S → R → Header → Bool) → S → List R → Header → ℕ
count_having has s regions h = sum_by (λ r. flag_number (has s r h)) regions

-- some header is in the region
abbrev pub HasSome : {S R : Type 0} → (S → R → Header → Bool) → S → R → Type 0
HasSome has s r = ((h : Header) → has s r h ≡ false) → ⊥

-- the region fits the store, isn't empty, and has with a header exactly the valid ones that are alike
pub record IsClass {S R : Type 0} (fits : S → R → Type 0) (has : S → R → Header → Bool) (s : S) (tests : List (Header → Bool)) (r : R) : Type 0 where
  pub fit : fits s r
  pub some : HasSome has s r
  pub only : (h k : Header) → IsTrue (has s r h) → IsTrue (has s r k) → IsAlike tests h k
  pub all : (h k : Header) → IsTrue (has s r h) → IsValid k → IsAlike tests h k → IsTrue (has s r k)

-- classes, of which each valid header is in exactly one and no other header in any
pub record AreClasses {S R : Type 0} (fits : S → R → Type 0) (has : S → R → Header → Bool) (s : S) (tests : List (Header → Bool)) (regions : List R) : Type 0 where
  pub each : All (IsClass fits has s tests) regions
  pub count : (h : Header) → count_having has s regions h ≡ flag_number (is_valid_header h)

-- what one region becomes by a cut: classes of one test more, each header of it in exactly one
pub record AreParts {S R : Type 0} (fits : S → R → Type 0) (has : S → R → Header → Bool) (old new : S) (cut region : R) (parts : List R) : Type 0 where
  pub fit : EachFits fits new parts
  pub each : (tests : List (Header → Bool)) → IsClass fits has old tests region → All (IsClass fits has new (tests ++ has old cut ∷ [])) parts
  pub count : (h : Header) → count_having has new parts h ≡ flag_number (has old region h)

-- the parts of one region stand after the others
pub record HasParts {S R : Type 0} (fits : S → R → Type 0) (has : S → R → Header → Bool) (old new : S) (cut region : R) (before after : List R) : Type 0 where
  pub more : List R
  pub is : after ≡ before ++ more
  pub parts : AreParts fits has old new cut region more

-- ---- the atoms

-- an atom with its least member
abbrev pub IsRead : {S R : Type 0} → (S → R → Header → Bool) → S → Atom R → Type 0
IsRead has s a = IsLeast (has s a.region) a.least

-- the atoms of the tests in the order of their least members, and the numbers of their regions
pub record AreInOrder {S R : Type 0} (fits : S → R → Type 0) (has : S → R → Header → Bool) (s : S) (tests : List (Header → Bool)) (atoms : List (Atom R)) : Type 0 where
  pub leasts : AreLeasts tests (leasts_of atoms)
  pub regions : DivideValid (fits s) (has s) (regions_of atoms)
  pub numbers : AreNumbers tests (leasts_of atoms) (number_in (has s) (regions_of atoms))
