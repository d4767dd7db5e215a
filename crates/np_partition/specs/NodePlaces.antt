-- What the places say that are made for the nodes of a region's diagram.
use Rattle.std.specs.Prelude.{◌≡◌, ℕ, ◌+◌, ◌≤◌, ◌<◌, Bool, nat_eq, List, length, Option, Some, ◌⊎◌}
use Rattle.std.specs.HashMap.{get}
use Rattle.np_space.specs.Flag.{flag_number}
use Rattle.np_bdd.specs.declared.views.View.{View}
use Rattle.np_bdd.specs.Views.{Bits, view_at, is_yes, place_after}
use Rattle.np_bdd.specs.Diagram.{bit_at_place}
use Rattle.np_partition.specs.declared.shows.Show.{Show}
use Rattle.np_partition.specs.declared.node_memo.NodeMemo.{NodeMemo}
use Rattle.np_partition.specs.Diagram.{class_at, bit_at}

-- whether the bits lead from the node to Yes in so many steps
abbrev pub leads_within : ℕ → List View → Bits → ℕ → Bool
leads_within n views bits x = is_yes (view_at views (place_after n views bits x))

-- a place that tests no bit before the node's, from which bits lead to class 1 where they lead from the node to Yes, and to
-- class 0 elsewhere; as many steps are enough as there are bits from the node's on
pub record IsPlaceOfNode (views : List View) (x : ℕ) (shows : List Show) (at : ℕ) : Type 0 where
  pub there : at < length shows
  pub from : bit_at_place views x ≤ bit_at shows at
  pub exact : (bits : Bits) (n : ℕ) → 111 ≤ bit_at_place views x + n → class_at bits shows at ≡ flag_number (leads_within n views bits x)

-- ---- the memo

-- the place that the memo keeps for a node
abbrev pub place_for_node : NodeMemo → ℕ → Option ℕ
place_for_node memo x = get nat_eq memo.places x

-- each place of the memo is the one that was made for its node
pub record IsNodeMemo (views : List View) (shows : List Show) (memo : NodeMemo) : Type 0 where
  pub exact : (x at : ℕ) → place_for_node memo x ≡ Some at → IsPlaceOfNode views x shows at

-- the memo keeps no place but those that it had, and perhaps this one
pub record LearnsNode (old new : NodeMemo) (x at : ℕ) : Type 0 where
  pub only : (y other : ℕ) → place_for_node new y ≡ Some other → (place_for_node old y ≡ Some other) ⊎ ((y ≡ x) × (other ≡ at))
