use Rattle.std.proofs.Common.{◌≡◌, ◌+◌, ◌<◌, [], ◌∷◌, ◌++◌, length, take, ap, sym, ◌∙◌, arith}
use Rattle.std.proofs.lemmas.List.{take_more}
use Rattle.np_region_cases.proofs.RegionLoops.{common_more}
use Rattle.np_region_cases.proofs.region.meet_each.Goals as goal

pub loop-region-preserved : goal.loop-region-preserved
loop-region-preserved g c =
    let xs = c.args.regions.now in
    let i = c.loop-region.region-index in
    let within : i < length xs = omega arith in
    let more : take (i + 1) xs ≡ take i xs ++ c.region-item.result ∷ [] =
    take_more xs i c.region-item.result within ∙ ap (λ x. take i xs ++ x ∷ []) (sym c.region-item.is) in
    let own : g.S.Regions.fits c.args.store.now c.region-item.result = rw c.region-item.is (c.requires.each i c.region-item.result within) in
    rw (more, c.in_ok-push.ensures.items) (common_more g.S.Regions.fits g.S.Regions.has_header c.args.store.now c.loop-region.store c.meet.new.self c.args.cut.now (take i xs) c.loop-region.common.items c.region-item.result c.in_ok-part.part c.loop-region.invariant own c.requires.cut c.meet.ensures.kept c.in_ok-part.ensures.fits c.in_ok-part.ensures.exact)
