use Rattle.std.proofs.Common.{◌++◌, map, take}
use Rattle.np_region.specs.Keeping.{tests_of}
use Rattle.np_cut.specs.FilterCuts.{AreCuts, pred_tests}
use Rattle.np_cut.specs.Making.{AreMade}
use Rattle.np_cut.proofs.filtering.with_preds.Given as goal

abbrev pub invariant-loop-pred : goal.invariant-loop-pred
invariant-loop-pred g l =
    AreCuts g.S.Regions.fits g.S.Regions.has_header (tests_of g.S.Regions.has_header l.fn.store l.fn.before.items ++ pred_tests (map (λ pred. pred.now) (take l.pred-index l.preds))) l.fn.store l.store l.cuts.items
    × AreMade g.S.Regions.fits g.S.Regions.has_header l.store l.made.items
