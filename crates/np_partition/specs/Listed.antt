-- Regions, each once, and the places of others among them.
use Rattle.std.specs.Prelude.{◌≡◌, ℕ, ◌<◌, ◌≤◌, List, [], length, map, Some, slice_index_or}
use Rattle.np_bdd.specs.declared.views.Node.{Node}
use Rattle.np_partition.specs.declared.node_memo.NodeMemo.{NodeMemo}
use Rattle.np_partition.specs.declared.partition.Partition.{Partition}
use Rattle.np_partition.specs.NodePlaces.{place_for_node}
use Rattle.np_partition.specs.Region.{node_at}

-- the place of each region among the listed ones, and no other region is listed
pub record AreListed (xs nodes : List Node) (places : List ℕ) : Type 0 where
  pub count : length places ≡ length xs
  pub there : (k : ℕ) → k < length xs → slice_index_or places k 0 < length nodes
  pub same : (k : ℕ) → k < length xs → node_at nodes (slice_index_or places k 0) ≡ node_at xs k
  pub used : (n : ℕ) → n < length nodes → (k : ℕ) × k < length xs × (slice_index_or places k 0 ≡ n)

-- the region is at this place of the new list, which has the regions of the old one at their places and no other one
pub record Lists (old new : List Node) (x : Node) (place : ℕ) : Type 0 where
  pub there : place < length new
  pub same : node_at new place ≡ x
  pub grows : length old ≤ length new
  pub kept : (n : ℕ) → n < length old → node_at new n ≡ node_at old n
  pub only : (n : ℕ) → length old ≤ n → n < length new → n ≡ place

-- the memo keeps places of listed regions
pub record IsListMemo (nodes : List Node) (memo : NodeMemo) : Type 0 where
  pub there : (x place : ℕ) → place_for_node memo x ≡ Some place → place < length nodes
  pub same : (x place : ℕ) → place_for_node memo x ≡ Some place → (node_at nodes place).at ≡ x

-- the same classes, with the sets at these places
abbrev pub with_sets_at : Partition → List ℕ → Partition
with_sets_at p places = record { shows = p.shows; root = p.root; classes = p.classes; sets = map (λ n. slice_index_or p.sets n []) places }
