use Rattle.std.proofs.Common.{◌≡◌}
use Rattle.np_flow.specs.Postures.{lets_atom}
use Rattle.np_flow.specs.Distances.{first_least, in_at}
use Rattle.np_flow.proofs.shortest.way_in.Given as goal

abbrev pub invariant-loop-n : goal.invariant-loop-n
invariant-loop-n l = l.found ≡ first_least (in_at l.interfaces (lets_atom l.slots l.atom) l.distances l.area) l.n
