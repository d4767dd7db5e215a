use Rattle.std.proofs.Common.{◌≡◌, ◌+◌, ◌<◌, [], ◌∷◌, ◌++◌, length, take, ap, sym, ◌∙◌, arith}
use Rattle.std.proofs.lemmas.List.{take_more}
use Rattle.np_region.specs.Keeping.{tests_of}
use Rattle.np_cut.proofs.FilterLaws.{cuts_more}
use Rattle.np_ipgoals.specs.Cuts.{source_test}
use Rattle.np_ipgoals.proofs.cutting.with_sources.Goals as goal

pub loop-area-preserved : goal.loop-area-preserved
loop-area-preserved g c =
    let xs = c.args.areas.now in
    let i = c.loop-area.area-index in
    let within : i < length xs = omega arith in
    let more : take (i + 1) xs ≡ take i xs ++ c.area-item.result ∷ [] =
    take_more xs i c.area-item.result within ∙ ap (λ x. take i xs ++ x ∷ []) (sym c.area-item.is) in
    let has = g.S.Regions.has_header in
    rw c.in_ok-push.ensures.items (cuts_more g.S.Regions.fits has source_test (tests_of has c.args.store.now c.args.before.items) c.args.store.now c.loop-area.store c.source_region.new.store (take i xs) (take (i + 1) xs) c.area-item.result c.loop-area.cuts.items c.in_ok-cut.cut c.loop-area.invariant c.source_region.ensures.kept c.in_ok-cut.ensures.fits (rw c.as_slice.ensures at c.in_ok-cut.ensures.exact) more)
