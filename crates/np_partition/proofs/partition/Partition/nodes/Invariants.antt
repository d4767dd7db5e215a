use Rattle.std.proofs.Common.{◌≡◌, length}
use Rattle.np_bdd.specs.Nodes.{KeepsNodes}
use Rattle.np_partition.specs.Region.{AreNodesOf}
use Rattle.np_partition.proofs.partition.Partition.nodes.Given as goal

abbrev pub invariant-loop-at : goal.invariant-loop-at
invariant-loop-at l = KeepsNodes l.fn.store l.store × (length l.nodes.items ≡ l.at) × AreNodesOf l.self.shows l.n l.store l.nodes.items
