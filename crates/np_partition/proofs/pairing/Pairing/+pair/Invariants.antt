use Rattle.std.proofs.Common.{◌-◌}
use Rattle.np_partition.specs.Pairing.{lesser_bit}
use Rattle.np_partition.proofs.pairing.Pairing.+pair.Given as goal

abbrev pub decreases-pair : goal.decreases-pair
decreases-pair l = 111 - lesser_bit l.first.now l.second.now l.x l.y
