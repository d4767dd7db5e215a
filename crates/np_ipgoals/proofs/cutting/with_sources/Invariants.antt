use Rattle.std.proofs.Common.{◌++◌, map, take}
use Rattle.np_region.specs.Keeping.{tests_of}
use Rattle.np_cut.specs.FilterCuts.{AreCuts}
use Rattle.np_ipgoals.specs.Cuts.{source_test}
use Rattle.np_ipgoals.proofs.cutting.with_sources.Given as goal

abbrev pub invariant-loop-area : goal.invariant-loop-area
invariant-loop-area g l =
    AreCuts g.S.Regions.fits g.S.Regions.has_header (tests_of g.S.Regions.has_header l.fn.store l.fn.before.items ++ map source_test (take l.area-index l.areas)) l.fn.store l.store l.cuts.items
