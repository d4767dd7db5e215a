use Rattle.std.proofs.Common.{sym, ◌∙◌}
use Rattle.std.specs.Vec.Iter.{into_iter_items}
use Rattle.np_atomizer.proofs.SplitLaws.{split_start, next_fits, split_next, split_all}
use Rattle.np_atomizer.proofs.splitting.split_each.Goals as goal

pub push_parts-requires-clause-region : goal.push_parts-requires-clause-region
push_parts-requires-clause-region g c =
    next_fits g.S.Regions.fits g.S.Regions.has_header c.args.store.now c.loop-region.store c.args.cut.now c.in-Some.region c.args.classes.items (into_iter_items c.loop-region.region-iterator) (into_iter_items c.next.new.self) c.loop-region.parts.items c.loop-region.invariant.2 c.in-Some.ensures.steps.0

pub push_parts-requires-clause-cut : goal.push_parts-requires-clause-cut
push_parts-requires-clause-cut g c = c.loop-region.invariant.2.kept.fit c.args.cut.now c.requires.cut

pub loop-region-init : goal.loop-region-init
loop-region-init g c = (
  tt,
  tt,
  split_start g.S.Regions.fits g.S.Regions.has_header c.args.store.now c.args.cut.now c.args.classes.items (into_iter_items c.into_iter-region-iterator.result) c.new-parts.result.items c.into_iter-region-iterator.ensures.into_iter_gives.0 c.new-parts.ensures.items c.requires.classes,
)

pub loop-region-preserved : goal.loop-region-preserved
loop-region-preserved g c = (
  tt,
  tt,
  split_next g.S.Regions.fits g.S.Regions.has_header c.args.store.now c.loop-region.store c.push_parts.new.store c.args.cut.now c.in-Some.region c.args.classes.items (into_iter_items c.loop-region.region-iterator) (into_iter_items c.next.new.self) c.loop-region.parts.items c.push_parts.new.parts.items c.in-Some.ensures.steps.0 c.requires.cut c.loop-region.invariant.2 c.push_parts.ensures.kept c.in_ok-push_parts.ensures.parts,
)

pub returns-clause-classes : goal.returns-clause-classes
returns-clause-classes g c =
    split_all g.S.Regions.fits g.S.Regions.has_header c.args.store.now c.loop-region.store c.args.cut.now c.args.classes.items (into_iter_items c.loop-region.region-iterator) c.loop-region.parts.items c.loop-region.invariant.2 (sym c.loop-region.region-iterator.rest.ok.0 ∙ c.in-None.ensures.steps.0)
