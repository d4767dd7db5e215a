use Rattle.std.proofs.Common.{◌≡◌, take}
use Rattle.np_net.specs.Plan.{interface_names}
use Rattle.np_net.proofs.net_names.places_of_interfaces.Given as goal

abbrev pub invariant-loop-interface : goal.invariant-loop-interface
invariant-loop-interface l = l.places ≡ interface_names (take l.interface-index l.interfaces)
