use Rattle.std.proofs.Common.{◌≡◌, ◌+◌, ◌<◌, [], ◌∷◌, ◌++◌, length, take, ap, sym, ◌∙◌, arith}
use Rattle.std.proofs.lemmas.List.{take_more}
use Rattle.np_atomizer.proofs.SplitLaws.{classes_more}
use Rattle.np_atomizer.proofs.splitting.classes_of.Goals as goal

pub loop-cut-preserved : goal.loop-cut-preserved
loop-cut-preserved g c =
    let cuts = c.args.cuts.now in
    let i = c.loop-cut.cut-index in
    let within : i < length cuts = omega arith in
    let more : take (i + 1) cuts ≡ take i cuts ++ c.cut-item.result ∷ [] =
    take_more cuts i c.cut-item.result within ∙ ap (λ x. take i cuts ++ x ∷ []) (sym c.cut-item.is) in
    let fits : g.S.Regions.fits c.args.store.now c.cut-item.result =
    rw (← c.cut-item.is) at (c.requires i c.cut-item.result within) in
    rw more (classes_more g.S.Regions.fits g.S.Regions.has_header c.args.store.now c.loop-cut.store c.split_each.new.store (take i cuts) c.cut-item.result c.loop-cut.classes.items c.in_ok-classes-2.classes.items fits c.loop-cut.invariant c.split_each.ensures.kept c.in_ok-classes-2.ensures.classes)
