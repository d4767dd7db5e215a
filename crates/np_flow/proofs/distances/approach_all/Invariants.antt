use Rattle.std.proofs.Common.{◌≡◌, ◌<◌}
use Rattle.std.specs.Bool.{MatchBool}
use Rattle.np_flow.specs.Postures.{lets_atom}
use Rattle.np_flow.specs.Distances.{unknown, AreNearer}
use Rattle.np_flow.proofs.distances.approach_all.Given as goal

abbrev pub invariant-loop-n : goal.invariant-loop-n
invariant-loop-n l = record {
  nearer : AreNearer l.interfaces (lets_atom l.slots l.atom) l.devices l.far l.n l.fn.distances l.distances;
  grew : MatchBool l.grew (unknown l.distances < unknown l.fn.distances) (l.distances ≡ l.fn.distances);
}
