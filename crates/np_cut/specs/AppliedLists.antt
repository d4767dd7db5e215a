-- What contracts see of the lists that configurations apply.
use Rattle.std.specs.Prelude.{◌≡◌, ℕ, ◌<◌, Bool, true, List, [], length, Option, None, IfSome, slice_index_or}
use Rattle.std.specs.Option.{option_map_or}
use Rattle.np_space.specs.declared.headers.Header.{Header}
use Rattle.np_acl.specs.declared.entries.Entry.{Entry}
use Rattle.np_acl.specs.Entries.{list_permits}

-- lists, the device and the name of each, and for each slot the place of the list that is applied there
pub record AppliedLists : Type 0 where
  pub lists : List (List Entry)
  pub names : List (ℕ × List ℕ)
  pub at : List (Option ℕ)

-- the place of the list that is applied at a slot
abbrev pub place_at : AppliedLists → ℕ → Option ℕ
place_at applied slot = slice_index_or applied.at slot None

-- the list at a place
abbrev pub list_at : AppliedLists → ℕ → List Entry
list_at applied place = slice_index_or applied.lists place []

-- what crosses a slot: what the list that is applied there permits, and everything where there is none
abbrev pub applied_lets : AppliedLists → ℕ → Header → Bool
applied_lets applied slot h = option_map_or (λ place. list_permits (list_at applied place) h) (place_at applied slot) true

-- each place has a list, and each list a device and a name
pub record IsApplied (applied : AppliedLists) : Type 0 where
  pub places : (slot : ℕ) → IfSome (place_at applied slot) (λ place. place < length applied.lists)
  pub named : length applied.names ≡ length applied.lists
