use Rattle.std.proofs.Common.{◌≡◌, ◌+◌, ◌*◌, ◌<◌, [], ◌∷◌, ◌++◌, length, take, ap, sym, refl, ◌∙◌, arith}
use Rattle.std.specs.Prelude.{◌&&◌, not}
use Rattle.std.proofs.lemmas.List.{take_more, take_all}
use Rattle.np_space.specs.Flag.{flag_number}
use Rattle.np_space.specs.Block.{any_has, block_has, count_having}
use Rattle.np_space.proofs.AlgebraLemmas.{count_none}
use Rattle.np_region.proofs.BlockListLemmas.{added_none, without_more, without_count, made}
use Rattle.np_region.proofs.lists.without.Goals as goal

pub loop-x-init : goal.loop-x-init
loop-x-init c =
    rw c.new-blocks.ensures.items (added_none (λ h. count_having [] h * flag_number (not (block_has c.args.y.now h))) []
    (λ h. ap (λ n. n * flag_number (not (block_has c.args.y.now h))) (count_none h) ∙ omega arith))

pub push_minus-requires : goal.push_minus-requires
push_minus-requires c =
    let within : c.loop-x.x-index < length c.args.xs.now = omega arith in
    rw c.x-item.is (c.requires.inside c.loop-x.x-index c.x-item.result within)

pub loop-x-preserved : goal.loop-x-preserved
loop-x-preserved c =
    let xs = c.args.xs.now in
    let i = c.loop-x.x-index in
    let within : i < length xs = omega arith in
    let more : take (i + 1) xs ≡ take i xs ++ c.x-item.result ∷ [] =
    take_more xs i c.x-item.result within ∙ ap (λ x. take i xs ++ x ∷ []) (sym c.x-item.is) in
    rw more (without_more c.x-item.result c.args.y.now (take i xs) [] c.loop-x.blocks.items _ c.loop-x.invariant c.in_ok-push_minus.ensures)

pub returns : goal.returns
returns c =
    let xs = c.args.xs.now in
    let all : take c.loop-x.x-index xs ≡ xs = take_all c.loop-x.x-index xs (omega arith) in
    made (λ h. count_having (take c.loop-x.x-index xs) h * flag_number (not (block_has c.args.y.now h))) (λ h. any_has xs h && not (block_has c.args.y.now h)) [] c.loop-x.blocks.items c.loop-x.invariant refl
    (λ h. ap (λ l. count_having l h * flag_number (not (block_has c.args.y.now h))) all ∙ without_count xs c.args.y.now c.requires h)
