use Rattle.std.specs.Vec.Iter.{into_iter_items}
use Rattle.np_atomizer.proofs.AtomLaws.{AreReadTo}
use Rattle.np_atomizer.proofs.splitting.atoms_with.Given as goal

abbrev pub invariant-loop-region : goal.invariant-loop-region
invariant-loop-region g l =
    (goal.iterator-loop-region g).can_next l.region-iterator
    × (goal.iterator-loop-region g).is_finite l.region-iterator
    × AreReadTo g.S.Regions.fits g.S.Regions.has_header l.store l.fn.regions.items (into_iter_items l.region-iterator) l.atoms.items
