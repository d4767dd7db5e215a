use Rattle.std.proofs.Common.{◌≡◌, ◌<◌}
use Rattle.std.specs.Bool.{MatchBool}
use Rattle.np_net.specs.Path.{area_of}
use Rattle.np_flow.specs.Spread.{total, Leaves, AreAdded, AreMarked}
use Rattle.np_flow.proofs.rounds.leave_all.Given as goal

abbrev pub invariant-loop-n : goal.invariant-loop-n
invariant-loop-n l = record {
  added : AreAdded (Leaves l.interfaces l.slots l.devices) (area_of l.interfaces) l.n l.fn.areas l.areas;
  grew : MatchBool l.grew (total l.fn.areas < total l.areas) (l.areas ≡ l.fn.areas);
  marked : AreMarked l.fn.areas l.areas l.fresh_areas;
}
