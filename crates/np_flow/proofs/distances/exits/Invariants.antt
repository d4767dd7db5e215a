use Rattle.std.proofs.Common.{◌≡◌, vec_len}
use Rattle.np_flow.specs.Postures.{lets_atom}
use Rattle.np_flow.specs.Distances.{AreExits}
use Rattle.np_flow.proofs.distances.exits.Given as goal

abbrev pub invariant-loop-n : goal.invariant-loop-n
invariant-loop-n l = record {
  len : vec_len l.marks ≡ l.devices;
  exits : AreExits l.interfaces (lets_atom l.slots l.atom) l.distances l.near l.n l.marks.items;
}
