use Rattle.std.proofs.Common.{map, take}
use Rattle.np_cut.specs.FilterCuts.{AreCuts, list_tests}
use Rattle.np_cut.proofs.filtering.list_cuts.Given as goal

abbrev pub invariant-loop-n : goal.invariant-loop-n
invariant-loop-n g l = AreCuts g.S.Regions.fits g.S.Regions.has_header (list_tests (map (λ list. list.now) (take l.n l.lists))) l.fn.store l.store l.cuts.items
