use Rattle.np_flow.specs.Postures.{lets_atom}
use Rattle.np_flow.specs.Distances.{hops_left, way_in}
use Rattle.np_flow.proofs.PathLaws.{AreSoFar}
use Rattle.np_flow.proofs.shortest.follow.Given as goal

abbrev pub invariant-hops : goal.invariant-hops
invariant-hops l = AreSoFar l.interfaces (lets_atom l.slots l.atom) l.from l.to l.hops l.area

abbrev pub decreases-hops : goal.decreases-hops
decreases-hops l = hops_left (way_in l.interfaces (lets_atom l.slots l.atom) l.distances l.area)
