use Rattle.std.proofs.Common.{take}
use Rattle.np_region_cases.proofs.RegionLoops.{HasThoseOf}
use Rattle.np_region_cases.proofs.region.join_all.Given as goal

abbrev pub invariant-loop-region : goal.invariant-loop-region
invariant-loop-region g l =
    HasThoseOf g.S.Regions.fits g.S.Regions.has_header l.fn.store l.store (take l.region-index l.regions) l.all
