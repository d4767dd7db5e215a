use Rattle.std.proofs.Common.{take}
use Rattle.np_region_cases.proofs.RegionLoops.{HasCommon}
use Rattle.np_region_cases.proofs.region.meet_each.Given as goal

abbrev pub invariant-loop-region : goal.invariant-loop-region
invariant-loop-region g l =
    HasCommon g.S.Regions.fits g.S.Regions.has_header l.fn.store l.store l.cut (take l.region-index l.regions) l.common.items
