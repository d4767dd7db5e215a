use Rattle.np_net.specs.Path.{device_of}
use Rattle.np_flow.specs.Spread.{Begins, AreAdded}
use Rattle.np_flow.proofs.rounds.begin_all.Given as goal

abbrev pub invariant-loop-n : goal.invariant-loop-n
invariant-loop-n l = AreAdded (Begins l.interfaces l.slots l.from) (device_of l.interfaces) l.n l.fn.devices l.devices
