-- Nodes of a store that stand for the places of a diagram.
use Rattle.std.specs.Prelude.{◌≡◌, ℕ, ◌<◌, ◌==◌, List, length, slice_index_or}
use Rattle.np_bdd.specs.declared.views.Node.{Node}
use Rattle.np_bdd.specs.declared.views.View.{View}
use Rattle.np_bdd.specs.Views.{Bits, leads_to_yes}
use Rattle.np_bdd.specs.Nodes.{StartsAt}
use Rattle.np_partition.specs.declared.shows.Show.{Show}
use Rattle.np_partition.specs.Diagram.{class_at, bit_at}

-- the node that a list has for a place
abbrev pub node_at : List Node → ℕ → Node
node_at nodes at = slice_index_or nodes at (record { at = 0 })

-- a node that tests no bit before the place does, from which bits lead to Yes where they lead from the place to the class
pub record IsNodeOf (shows : List Show) (n : ℕ) (views : List View) (at : ℕ) (x : Node) : Type 0 where
  pub starts : StartsAt views (bit_at shows at) x.at
  pub exact : (bits : Bits) → leads_to_yes views bits x.at ≡ (class_at bits shows at == n)

-- each node of the list is one of the place that has its number
abbrev pub AreNodesOf : List Show → ℕ → List View → List Node → Type 0
AreNodesOf shows n views nodes = (at : ℕ) → at < length nodes → IsNodeOf shows n views at (node_at nodes at)
