use Rattle.std.proofs.Common.{[], ◌∷◌, take}
use Rattle.std.specs.Prelude.{◌&&◌, ◌||◌}
use Rattle.np_space.specs.Header.{is_valid_header}
use Rattle.np_cut.specs.Cutting.{matches_with, IsRegionOf}
use Rattle.np_cut.proofs.list_regions.with_source.Given as goal

abbrev pub invariant-loop-b : goal.invariant-loop-b
invariant-loop-b g l =
    IsRegionOf g.S.Regions.fits g.S.Regions.has_header (λ h. g.S.Regions.has_header l.fn.store l.fn.region h || (is_valid_header h && matches_with l.entry (l.a ∷ []) (take l.b-index l.entry.b) h)) l.fn.store l.store l.all
