use Rattle.std.proofs.Common.{length}
use Rattle.np_partition.proofs.partition.Partition.+of_all.Given as goal

abbrev pub decreases-of_all : goal.decreases-of_all
decreases-of_all l = length l.xs.now
