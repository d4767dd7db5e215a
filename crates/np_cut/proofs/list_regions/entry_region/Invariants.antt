use Rattle.std.proofs.Common.{take}
use Rattle.std.specs.Prelude.{◌&&◌}
use Rattle.np_space.specs.Header.{is_valid_header}
use Rattle.np_cut.specs.Cutting.{matches_with, IsRegionOf}
use Rattle.np_cut.proofs.list_regions.entry_region.Given as goal

abbrev pub invariant-loop-a : goal.invariant-loop-a
invariant-loop-a g l =
    IsRegionOf g.S.Regions.fits g.S.Regions.has_header (λ h. is_valid_header h && matches_with l.entry (take l.a-index l.entry.a) l.entry.b h) l.fn.store l.store l.all
