use Rattle.std.proofs.Common.{◌≡◌, ◌<◌, length}
use Rattle.np_bdd.specs.Views.{bits_of_header}
use Rattle.np_partition.specs.Diagram.{class_at}
use Rattle.np_partition.proofs.asking.class_from.Given as goal

abbrev pub invariant-bits : goal.invariant-bits
invariant-bits l = (l.at < length l.shows) × (class_at (bits_of_header l.h) l.shows l.at ≡ class_at (bits_of_header l.h) l.shows l.root)

abbrev pub decreases-bits : goal.decreases-bits
decreases-bits l = l.at
