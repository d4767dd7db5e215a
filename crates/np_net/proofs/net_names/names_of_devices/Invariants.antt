use Rattle.std.proofs.Common.{◌≡◌, take}
use Rattle.np_net.specs.Plan.{device_names}
use Rattle.np_net.proofs.net_names.names_of_devices.Given as goal

abbrev pub invariant-loop-device : goal.invariant-loop-device
invariant-loop-device l = l.names ≡ device_names (take l.device-index l.devices)
