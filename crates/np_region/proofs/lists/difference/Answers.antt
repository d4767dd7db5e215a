use Rattle.std.proofs.Common.{◌≡◌, ◌+◌, ◌<◌, [], ◌∷◌, ◌++◌, length, take, ap, sym, ◌∙◌, arith}
use Rattle.std.specs.Prelude.{◌&&◌, not}
use Rattle.std.proofs.lemmas.List.{take_more, take_all}
use Rattle.np_space.specs.Block.{any_has, block_has}
use Rattle.np_region.proofs.BlockListLemmas.{difference_none, difference_more, relisted}
use Rattle.np_region.proofs.lists.difference.Goals as goal

pub loop-y-init : goal.loop-y-init
loop-y-init c = rw c.in_ok-rest.ensures.items (difference_none c.args.xs.now c.requires)

pub loop-y-preserved : goal.loop-y-preserved
loop-y-preserved c =
    let ys = c.args.ys.now in
    let i = c.loop-y.y-index in
    let within : i < length ys = omega arith in
    let more : take (i + 1) ys ≡ take i ys ++ c.y-item.result ∷ [] =
    take_more ys i c.y-item.result within ∙ ap (λ x. take i ys ++ x ∷ []) (sym c.y-item.is) in
    rw more (difference_more c.args.xs.now (take i ys) c.loop-y.rest.items _ c.y-item.result c.loop-y.invariant
    (relisted (λ h. any_has c.deref.result.now h && not (block_has c.y-item.result h)) (λ h. any_has c.loop-y.rest.items h && not (block_has c.y-item.result h)) _ c.in_ok-rest-2.ensures
    (λ h. ap (λ l. any_has l h && not (block_has c.y-item.result h)) c.deref.ensures.value)))

pub returns : goal.returns
returns c =
    let ys = c.args.ys.now in
    let all : take c.loop-y.y-index ys ≡ ys = take_all c.loop-y.y-index ys (omega arith) in
    relisted (λ h. any_has c.args.xs.now h && not (any_has (take c.loop-y.y-index ys) h)) (λ h. any_has c.args.xs.now h && not (any_has ys h)) c.loop-y.rest.items c.loop-y.invariant
    (λ h. ap (λ l. any_has c.args.xs.now h && not (any_has l h)) all)
