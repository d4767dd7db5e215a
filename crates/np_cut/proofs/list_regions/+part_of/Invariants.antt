use Rattle.std.proofs.Common.{length}
use Rattle.np_cut.proofs.list_regions.+part_of.Given as goal

abbrev pub decreases-part_of : goal.decreases-part_of
decreases-part_of g l = length l.entries.now
