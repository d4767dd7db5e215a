use Rattle.np_net.specs.Path.{device_of}
use Rattle.np_flow.specs.Spread.{Enters, AreAdded, AreMarked}
use Rattle.np_flow.proofs.rounds.enter_all.Given as goal

abbrev pub invariant-loop-n : goal.invariant-loop-n
invariant-loop-n l = record {
  added : AreAdded (Enters l.interfaces l.slots l.areas) (device_of l.interfaces) l.n l.fn.devices l.devices;
  marked : AreMarked l.fn.devices l.devices l.fresh_devices;
}
