use Rattle.std.proofs.Common.{◌≡◌, ◌+◌, ◌<◌, length, map, take, arith}
use Rattle.std.specs.Borrow.{Bor}
use Rattle.np_pred.specs.declared.predicate.Pred.{Pred}
use Rattle.np_net.proofs.ListLaws.{map_next}
use Rattle.np_region.specs.Keeping.{tests_of}
use Rattle.np_cut.specs.FilterCuts.{pred_test}
use Rattle.np_cut.proofs.FilterLaws.{cuts_more}
use Rattle.np_cut.proofs.filtering.with_preds.Goals as goal

pub loop-pred-preserved : goal.loop-pred-preserved
loop-pred-preserved g c =
    let xs = c.args.preds.now in
    let i = c.loop-pred.pred-index in
    let within : i < length xs = omega arith in
    let more = map_next (λ (p : Bor Pred). p.now) xs i c.pred-item.result within c.pred-item.is in
    let has = g.S.Regions.has_header in
    (rw c.in_ok-push.ensures.items (cuts_more g.S.Regions.fits has pred_test (tests_of has c.args.store.now c.args.before.items) c.args.store.now c.loop-pred.store c.pred_region_with.new.store (map (λ (p : Bor Pred). p.now) (take i xs)) (map (λ (p : Bor Pred). p.now) (take (i + 1) xs)) c.pred-item.result.now c.loop-pred.cuts.items c.in_ok-cut.cut c.loop-pred.invariant.0 c.pred_region_with.ensures.kept c.in_ok-cut.ensures.fits c.in_ok-cut.ensures.exact more), c.in_ok-cut.ensures.made)
