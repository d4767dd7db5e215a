use Rattle.std.proofs.Common.{◌-◌}
use Rattle.np_bdd.specs.Combining.{lesser_bit}
use Rattle.np_bdd.proofs.nodes.Nodes.+combined_by.Given as goal

abbrev pub decreases-combined_by : goal.decreases-combined_by
decreases-combined_by l = 111 - lesser_bit l.self.now l.x.at l.y.at
