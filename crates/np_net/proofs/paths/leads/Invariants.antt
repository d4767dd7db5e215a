use Rattle.std.proofs.Common.{◌↔◌, drop}
use Rattle.np_net.specs.Path.{Leads}
use Rattle.np_net.proofs.paths.leads.Given as goal

abbrev pub invariant-loop-hop : goal.invariant-loop-hop
invariant-loop-hop l = Leads l.interfaces l.from l.hops l.to ↔ Leads l.interfaces l.area (drop l.hop-index l.hops) l.to
