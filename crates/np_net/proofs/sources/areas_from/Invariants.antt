use Rattle.std.proofs.Common.{◌≡◌, take}
use Rattle.np_net.specs.Sources.{source_list}
use Rattle.np_net.proofs.sources.areas_from.Given as goal

abbrev pub invariant-loop-area : goal.invariant-loop-area
invariant-loop-area l = l.found ≡ source_list (take l.area-index l.areas)
