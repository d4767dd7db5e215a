use Rattle.std.proofs.Common.{◌-◌}
use Rattle.np_space.specs.Header.{HasWidths}
use Rattle.np_bdd.specs.Views.{bits_of_header}
use Rattle.np_bdd.specs.Diagram.{bit_at_place}
use Rattle.np_bdd.specs.Walking.{IsWay}
use Rattle.np_bdd.proofs.nodes.Nodes.least_from.Given as goal

abbrev pub invariant-loop-at : goal.invariant-loop-at
invariant-loop-at l = HasWidths l.h × IsWay l.self l.fn.x.at l.at.at (bits_of_header l.h)

abbrev pub decreases-loop-at : goal.decreases-loop-at
decreases-loop-at l = 111 - bit_at_place l.self l.at.at
