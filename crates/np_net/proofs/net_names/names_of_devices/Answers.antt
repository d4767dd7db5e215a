use Rattle.std.proofs.Common.{[]}
use Rattle.std.specs.Str.{bytes_eq}
use Rattle.np_net.specs.declared.filtering.Device.{Device}
use Rattle.np_net.proofs.ListLaws.{new_at, map_next}
use Rattle.np_net.proofs.net_names.names_of_devices.Goals as goal

pub add-requires : goal.add-requires
add-requires c =
    rw (c.bytes.ensures, c.loop-device.invariant)
    (new_at bytes_eq (λ (device : Device). device.name) [] c.args.devices.now c.loop-device.device-index c.device-item.result c.loop-device-test.true c.device-item.is c.requires)

pub loop-device-preserved : goal.loop-device-preserved
loop-device-preserved c =
    rw (map_next (λ (device : Device). device.name) c.args.devices.now c.loop-device.device-index c.device-item.result c.loop-device-test.true c.device-item.is, ← c.bytes.ensures, ← c.loop-device.invariant) c.in_ok-add.ensures.ok
