-- What the steps of the store's calls say of places, for any bits.
use Rattle.std.specs.Prelude.{◌≡◌, ℕ, ◌+◌, ◌≤◌, ◌<◌, List, length, if◌then◌else◌}
use Rattle.np_bdd.specs.declared.views.View.{View}
use Rattle.np_bdd.specs.Views.{Bits, leads_to_yes}
use Rattle.np_bdd.specs.Diagram.{bit_at_place, KeepsViews}

-- the earlier views are kept, and with them what bits find at their places
pub record KeepsNodes (old new : List View) : Type 0 where
  pub views : KeepsViews old new
  pub there : (x : ℕ) → x < length old → x < length new
  pub bit : (x : ℕ) → x < length old → bit_at_place new x ≡ bit_at_place old x
  pub same : (x : ℕ) → x < length old → (bits : Bits) → leads_to_yes new bits x ≡ leads_to_yes old bits x

-- a place that stands in the list, and tests no bit before this one
pub record StartsAt (views : List View) (bit x : ℕ) : Type 0 where
  pub there : x < length views
  pub from : bit ≤ bit_at_place views x

-- from a place the bits lead where they lead from one place or another, as this bit of them says
abbrev pub Chooses : List View → ℕ → ℕ → ℕ → ℕ → Type 0
Chooses views bit low high x = (bits : Bits) → leads_to_yes views bits x ≡ (if bits bit then leads_to_yes views bits high else leads_to_yes views bits low)

-- two branches, both past the bit, between which the place chooses by it
pub record IsSplit (views : List View) (bit low high x : ℕ) : Type 0 where
  pub low_starts : StartsAt views (1 + bit) low
  pub high_starts : StartsAt views (1 + bit) high
  pub chooses : Chooses views bit low high x
