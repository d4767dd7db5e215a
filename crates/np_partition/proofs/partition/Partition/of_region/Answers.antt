use Rattle.std.proofs.Common.{refl}
use Rattle.np_partition.proofs.NodePlaceLaws.{region_partition}
use Rattle.np_partition.proofs.partition.Partition.of_region.Goals as goal

pub returns : goal.returns
returns c = region_partition _ _ _ c.finish.ensures.diagram (rw c.finish.ensures.same c.in_ok-root.ensures.place) refl c.in_ok-sets.ensures
