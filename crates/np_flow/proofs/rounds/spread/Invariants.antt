use Rattle.std.proofs.Common.{◌-◌, ◌*◌, length}
use Rattle.np_net.specs.Path.{device_of, area_of}
use Rattle.np_flow.specs.Postures.{atom_count, AllHaveLength}
use Rattle.np_flow.specs.Spread.{total, Leaves, AreDone, AreEntered, AreReached}
use Rattle.np_flow.proofs.rounds.spread.Given as goal

abbrev pub invariant-rounds : goal.invariant-rounds
invariant-rounds l = record {
  devices : AllHaveLength (atom_count l.slots) l.devices;
  areas : AllHaveLength (atom_count l.slots) l.areas;
  entered : AreEntered l.interfaces l.slots l.from l.areas l.devices;
  done : AreDone (Leaves l.interfaces l.slots l.devices) (device_of l.interfaces) (area_of l.interfaces) (length l.interfaces) l.fresh_devices l.areas;
  sound : AreReached l.interfaces l.slots l.from l.areas;
}

abbrev pub decreases-rounds : goal.decreases-rounds
decreases-rounds l = length l.initial.areas * atom_count l.slots - total l.areas
