use Rattle.std.proofs.Common.{◌-◌}
use Rattle.np_bdd.specs.Diagram.{bit_at_place}
use Rattle.np_partition.proofs.places.Places.+node.Given as goal

abbrev pub decreases-node : goal.decreases-node
decreases-node l = 111 - bit_at_place l.store.now l.x.at
