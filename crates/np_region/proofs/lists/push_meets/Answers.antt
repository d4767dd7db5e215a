use Rattle.std.proofs.Common.{◌≡◌, ◌+◌, ◌*◌, ◌<◌, [], ◌∷◌, ◌++◌, length, take, ap, sym, ◌∙◌, arith}
use Rattle.std.proofs.lemmas.List.{take_more}
use Rattle.np_space.specs.Flag.{flag_number}
use Rattle.np_space.specs.Block.{block_has, count_having}
use Rattle.np_space.proofs.AlgebraLemmas.{count_none}
use Rattle.np_region.proofs.BlockListLemmas.{added_none, meets_more}
use Rattle.np_region.proofs.lists.push_meets.Goals as goal

pub loop-other-init : goal.loop-other-init
loop-other-init c =
    added_none (λ h. flag_number (block_has c.args.block.now h) * count_having [] h) c.args.blocks.now.items
    (λ h. ap (λ n. flag_number (block_has c.args.block.now h) * n) (count_none h) ∙ omega arith)

pub loop-other-preserved : goal.loop-other-preserved
loop-other-preserved c =
    let xs = c.args.others.now in
    let i = c.loop-other.other-index in
    let within : i < length xs = omega arith in
    let more : take (i + 1) xs ≡ take i xs ++ c.other-item.result ∷ [] =
    take_more xs i c.other-item.result within ∙ ap (λ x. take i xs ++ x ∷ []) (sym c.other-item.is) in
    rw more (meets_more c.args.block.now c.other-item.result (take i xs) c.args.blocks.now.items c.loop-other.blocks.items _ c.loop-other.invariant c.in_ok-push_meet.ensures)
