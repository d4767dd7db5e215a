use Rattle.std.proofs.Common.{◌≡◌, ◌<◌, ◌-◌, length}
use Rattle.np_bdd.specs.Views.{bits_of_header, leads_to_yes}
use Rattle.np_bdd.specs.Diagram.{bit_at_place}
use Rattle.np_bdd.proofs.nodes.Nodes.leads.Given as goal

abbrev pub invariant-loop-at : goal.invariant-loop-at
invariant-loop-at l = (l.at.at < length l.self) × (leads_to_yes l.self (bits_of_header l.h) l.at.at ≡ leads_to_yes l.self (bits_of_header l.h) l.fn.x.at)

abbrev pub decreases-loop-at : goal.decreases-loop-at
decreases-loop-at l = 111 - bit_at_place l.self l.at.at
