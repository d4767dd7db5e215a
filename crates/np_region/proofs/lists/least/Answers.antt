use Rattle.std.proofs.Common.{◌≡◌, ◌+◌, ◌<◌, [], ◌∷◌, ◌++◌, length, take, ap, sym, ◌∙◌, arith}
use Rattle.std.proofs.lemmas.List.{take_more}
use Rattle.np_space.specs.Block.{any_has}
use Rattle.np_region.proofs.BlockListLemmas.{least_more}
use Rattle.np_region.proofs.lists.least.Goals as goal

pub loop-block-preserved : goal.loop-block-preserved
loop-block-preserved c =
    let bs = c.args.blocks.now in
    let i = c.loop-block.block-index in
    let within : i < length bs = omega arith in
    let more : take (i + 1) bs ≡ take i bs ++ c.block-item.result ∷ [] =
    take_more bs i c.block-item.result within ∙ ap (λ x. take i bs ++ x ∷ []) (sym c.block-item.is) in
    rw more (least_more (take i bs) c.block-item.result c.least_with.result (c.least_with.ensures (any_has (take i bs)) c.loop-block.invariant))
