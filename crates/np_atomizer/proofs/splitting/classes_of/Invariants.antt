use Rattle.std.proofs.Common.{take}
use Rattle.np_atomizer.proofs.SplitLaws.{AreClassesOf}
use Rattle.np_atomizer.proofs.splitting.classes_of.Given as goal

abbrev pub invariant-loop-cut : goal.invariant-loop-cut
invariant-loop-cut g l =
    AreClassesOf g.S.Regions.fits g.S.Regions.has_header l.fn.store l.store (take l.cut-index l.cuts) l.classes.items
