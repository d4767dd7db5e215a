use Rattle.std.proofs.Common.{◌≤◌, length}
use Rattle.np_partition.specs.Least.{AreHandedOn}
use Rattle.np_partition.proofs.partition.Partition.hand_on_all.Given as goal

abbrev pub invariant-loop-at : goal.invariant-loop-at
invariant-loop-at l = (l.at ≤ length l.self.shows) × AreHandedOn l.self l.at l.places l.leasts

abbrev pub decreases-loop-at : goal.decreases-loop-at
decreases-loop-at l = l.at
