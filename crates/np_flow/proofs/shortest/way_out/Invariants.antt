use Rattle.std.proofs.Common.{◌≡◌}
use Rattle.np_flow.specs.Postures.{lets_atom}
use Rattle.np_flow.specs.Distances.{first_least, out_at}
use Rattle.np_flow.proofs.shortest.way_out.Given as goal

abbrev pub invariant-loop-n : goal.invariant-loop-n
invariant-loop-n l = l.found ≡ first_least (out_at l.interfaces (lets_atom l.slots l.atom) l.distances l.device) l.n
