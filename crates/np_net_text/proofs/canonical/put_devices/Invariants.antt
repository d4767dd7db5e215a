use Rattle.std.proofs.Common.{◌≡◌, ◌++◌, take}
use Rattle.std.specs.List.{flat_map}
use Rattle.np_net_text.specs.Canonical as canonical
use Rattle.np_net_text.specs.CanonicalText.{line_text}
use Rattle.np_net_text.proofs.canonical.put_devices.Given as goal

abbrev pub invariant-loop-device : goal.invariant-loop-device
invariant-loop-device l = l.out.items ≡ l.initial.out.items ++ flat_map (λ device. line_text (canonical.device_words device)) (take l.device-index l.devices)
