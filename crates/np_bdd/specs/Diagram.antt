-- Ordered reduced decision diagrams.
use Rattle.std.specs.Prelude.{◌≡◌, ◌≢◌, ℕ, ◌<◌, List, ◌++◌, length, slice_get, Some, IsTrue}
use Rattle.np_space.specs.Header.{IsValid}
use Rattle.np_space.specs.declared.headers.Header.{Header}
use Rattle.np_bdd.specs.declared.views.Node.{Node}
use Rattle.np_bdd.specs.declared.views.View.{View}
use Rattle.np_bdd.specs.declared.views.View.TheVariants.{No, Yes, Test}
use Rattle.np_bdd.specs.Views.{view_at, node_has}

-- the bit that a view tests; one without a test counts as if it tested a bit past the last
abbrev pub bit_of : View → ℕ
bit_of No = 111
bit_of Yes = 111
bit_of (Test bit low high) = bit

-- the bit that is tested at a place
abbrev pub bit_at_place : List View → ℕ → ℕ
bit_at_place views at = bit_of (view_at views at)

-- a test of one of the bits, whose branches stand in the list, differ and test greater bits
pub record IsOrderedTest (views : List View) (bit : ℕ) (low high : Node) : Type 0 where
  pub bit_fits : bit < 111
  pub low_there : low.at < length views
  pub high_there : high.at < length views
  pub low_greater : bit < bit_at_place views low.at
  pub high_greater : bit < bit_at_place views high.at
  pub differ : low.at ≢ high.at

-- the same of a view that is a test
abbrev pub IsOrdered : List View → View → Type 0
IsOrdered views No = Unit {0}
IsOrdered views Yes = Unit {0}
IsOrdered views (Test bit low high) = IsOrderedTest views bit low high

-- No, then Yes, then tests, none of them twice
pub record IsDiagram (views : List View) : Type 0 where
  pub no_first : slice_get views 0 ≡ Some No
  pub yes_next : slice_get views 1 ≡ Some Yes
  pub ordered : (at : ℕ) → at < length views → IsOrdered views (view_at views at)
  pub unique : (x y : ℕ) → x < length views → y < length views → view_at views x ≡ view_at views y → x ≡ y

-- the earlier views are kept, and others may follow them
pub record KeepsViews (old new : List View) : Type 0 where
  pub more : List View
  pub appended : new ≡ old ++ more

-- a node in the list that has valid headers alone
pub record IsRegion (views : List View) (x : Node) : Type 0 where
  pub there : x.at < length views
  pub only_valid : (h : Header) → IsTrue (node_has views x h) → IsValid h
