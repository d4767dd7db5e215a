use Rattle.std.proofs.Common.{◌+◌, ◌≤◌, length}
use Rattle.np_flow.specs.Postures.{lets_atom}
use Rattle.np_flow.specs.Distances.{unknown, AreKnown}
use Rattle.np_flow.proofs.distances.go_back.Given as goal

abbrev pub invariant-rounds : goal.invariant-rounds
invariant-rounds l = record {
  known : AreKnown l.interfaces (lets_atom l.slots l.atom) l.to l.near l.distances;
  room : l.near + unknown l.distances ≤ length l.initial.distances;
}

abbrev pub decreases-rounds : goal.decreases-rounds
decreases-rounds l = unknown l.distances
