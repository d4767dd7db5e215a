use Rattle.std.proofs.Common.{◌≡◌, ◌+◌, ◌*◌, ◌<◌, [], ◌∷◌, ◌++◌, length, take, ap, sym, refl, ◌∙◌, arith}
use Rattle.std.specs.Prelude.{◌&&◌}
use Rattle.std.proofs.lemmas.List.{take_more, take_all}
use Rattle.np_space.specs.Block.{any_has, count_having}
use Rattle.np_space.proofs.AlgebraLemmas.{count_none}
use Rattle.np_region.proofs.BlockListLemmas.{added_none, common_of_more, common_count, made}
use Rattle.np_region.proofs.lists.common.Goals as goal

pub loop-y-init : goal.loop-y-init
loop-y-init c =
    rw c.new-blocks.ensures.items (added_none (λ h. count_having [] h * count_having c.args.xs.now h) []
    (λ h. ap (λ n. n * count_having c.args.xs.now h) (count_none h) ∙ omega arith))

pub loop-y-preserved : goal.loop-y-preserved
loop-y-preserved c =
    let ys = c.args.ys.now in
    let i = c.loop-y.y-index in
    let within : i < length ys = omega arith in
    let more : take (i + 1) ys ≡ take i ys ++ c.y-item.result ∷ [] =
    take_more ys i c.y-item.result within ∙ ap (λ x. take i ys ++ x ∷ []) (sym c.y-item.is) in
    rw more (common_of_more c.y-item.result (take i ys) c.args.xs.now [] c.loop-y.blocks.items _ c.loop-y.invariant c.in_ok-push_meets.ensures)

pub returns : goal.returns
returns c =
    let ys = c.args.ys.now in
    let all : take c.loop-y.y-index ys ≡ ys = take_all c.loop-y.y-index ys (omega arith) in
    made (λ h. count_having (take c.loop-y.y-index ys) h * count_having c.args.xs.now h) (λ h. any_has c.args.xs.now h && any_has ys h) [] c.loop-y.blocks.items c.loop-y.invariant refl
    (λ h. ap (λ l. count_having l h * count_having c.args.xs.now h) all ∙ common_count c.args.xs.now ys c.requires.first c.requires.second h)
