use Rattle.std.specs.Vec.Iter.{into_iter_items}
use Rattle.np_atomizer.proofs.SplitLaws.{IsSplit}
use Rattle.np_atomizer.proofs.splitting.split_each.Given as goal

abbrev pub invariant-loop-region : goal.invariant-loop-region
invariant-loop-region g l =
    (goal.iterator-loop-region g).can_next l.region-iterator
    × (goal.iterator-loop-region g).is_finite l.region-iterator
    × IsSplit g.S.Regions.fits g.S.Regions.has_header l.fn.store l.store l.cut l.fn.classes.items (into_iter_items l.region-iterator) l.parts.items
