use Rattle.std.proofs.Common.{◌≡◌, take}
use Rattle.np_net.specs.Plan.{area_names}
use Rattle.np_net.proofs.net_names.names_of_areas.Given as goal

abbrev pub invariant-loop-area : goal.invariant-loop-area
invariant-loop-area l = l.names ≡ area_names (take l.area-index l.areas)
