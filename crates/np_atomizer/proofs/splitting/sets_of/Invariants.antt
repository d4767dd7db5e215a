use Rattle.std.proofs.Common.{◌≡◌, take}
use Rattle.np_region.specs.Keeping.{tests_of}
use Rattle.np_atoms.specs.Atoms.{cut_sets}
use Rattle.np_atomizer.proofs.splitting.sets_of.Given as goal

abbrev pub invariant-loop-cut : goal.invariant-loop-cut
invariant-loop-cut g l = l.sets ≡ cut_sets (tests_of g.S.Regions.has_header l.store (take l.cut-index l.cuts)) l.leasts
