use Rattle.std.proofs.Common.{sym, ◌∙◌}
use Rattle.std.specs.Vec.Iter.{into_iter_items}
use Rattle.np_atomizer.proofs.AtomLaws.{read_none, next_fits, read_more, read_all}
use Rattle.np_atomizer.proofs.splitting.atoms_with.Goals as goal

pub loop-region-init : goal.loop-region-init
loop-region-init g c = (
  tt,
  tt,
  read_none g.S.Regions.fits g.S.Regions.has_header c.args.store.now c.args.regions.items (into_iter_items c.into_iter-region-iterator.result) c.new-atoms.result.items c.into_iter-region-iterator.ensures.into_iter_gives.0 c.new-atoms.ensures.items c.requires.fits c.requires.some,
)

pub atom_with-requires-clause-fits : goal.atom_with-requires-clause-fits
atom_with-requires-clause-fits g c =
    (next_fits g.S.Regions.fits g.S.Regions.has_header c.args.store.now c.args.regions.items (into_iter_items c.loop-region.region-iterator) (into_iter_items c.next.new.self) c.in-Some.region c.loop-region.atoms.items c.in-Some.ensures.steps.0 c.loop-region.invariant.2).0

pub atom_with-requires-clause-some : goal.atom_with-requires-clause-some
atom_with-requires-clause-some g c =
    (next_fits g.S.Regions.fits g.S.Regions.has_header c.args.store.now c.args.regions.items (into_iter_items c.loop-region.region-iterator) (into_iter_items c.next.new.self) c.in-Some.region c.loop-region.atoms.items c.in-Some.ensures.steps.0 c.loop-region.invariant.2).1

pub loop-region-preserved : goal.loop-region-preserved
loop-region-preserved g c = (
  tt,
  tt,
  read_more g.S.Regions.fits g.S.Regions.has_header c.args.store.now c.args.regions.items (into_iter_items c.loop-region.region-iterator) (into_iter_items c.next.new.self) c.in-Some.region c.loop-region.atoms.items c.push.new.self.items c.atom_with.result c.in-Some.ensures.steps.0 c.in_ok-push.ensures.items c.loop-region.invariant.2 c.atom_with.ensures.region c.atom_with.ensures.read,
)

pub returns-clause-regions : goal.returns-clause-regions
returns-clause-regions g c =
    read_all g.S.Regions.fits g.S.Regions.has_header c.args.store.now c.args.regions.items (into_iter_items c.loop-region.region-iterator) c.loop-region.atoms.items (sym c.loop-region.region-iterator.rest.ok.0 ∙ c.in-None.ensures.steps.0) c.loop-region.invariant.2
