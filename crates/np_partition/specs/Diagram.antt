-- Diagrams whose leaves are the numbers of classes, and where bits lead in them.
use Rattle.std.specs.Prelude.{◌≡◌, ℕ, ◌<◌, List, [], ◌∷◌, ◌++◌, length, fold, slice_index_or, if◌then◌else◌}
use Rattle.np_bdd.specs.Views.{Bits}
use Rattle.np_partition.specs.declared.shows.Show.{Show}
use Rattle.np_partition.specs.declared.shows.Show.TheVariants.{Class, Test}

-- ---- where bits lead

-- the class to which the bits lead from a place that shows this, by the classes to which they lead from the places before it
abbrev pub class_shown : Bits → List ℕ → Show → ℕ
class_shown bits before (Class n) = n
class_shown bits before (Test bit low high) = if bits bit then slice_index_or before high 0 else slice_index_or before low 0

-- the classes to which the bits lead from each of the places, in their order
unfoldable pub classes_from : Bits → List Show → List ℕ
classes_from bits shows = fold (λ before show. before ++ class_shown bits before show ∷ []) [] shows

-- the class to which the bits lead from a place
abbrev pub class_at : Bits → List Show → ℕ → ℕ
class_at bits shows at = slice_index_or (classes_from bits shows) at 0

-- ---- what makes a diagram

-- what a place shows
abbrev pub show_at : List Show → ℕ → Show
show_at shows at = slice_index_or shows at (Class 0)

-- the bit that is tested; a place without a test counts as if it tested a bit past the last
abbrev pub bit_of : Show → ℕ
bit_of (Class n) = 111
bit_of (Test bit low high) = bit

-- the bit that is tested at a place
abbrev pub bit_at : List Show → ℕ → ℕ
bit_at shows at = bit_of (show_at shows at)

-- a test of one of the bits at a place, whose branches stand before it and test greater bits
pub record IsOrderedTest (shows : List Show) (at bit low high : ℕ) : Type 0 where
  pub bit_fits : bit < 111
  pub low_before : low < at
  pub high_before : high < at
  pub low_greater : bit < bit_at shows low
  pub high_greater : bit < bit_at shows high

-- the same of what a place shows, where that is a test
abbrev pub IsOrdered : List Show → ℕ → Show → Type 0
IsOrdered shows at (Class n) = Unit {0}
IsOrdered shows at (Test bit low high) = IsOrderedTest shows at bit low high

-- each test stands after its branches, and tests a bit before theirs
abbrev pub IsDiagram : List Show → Type 0
IsDiagram shows = (at : ℕ) → at < length shows → IsOrdered shows at (show_at shows at)
