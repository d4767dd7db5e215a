use Rattle.std.proofs.Common.{◌<◌, length, arith}
use Rattle.std.proofs.lemmas.List.{take_more}
use Rattle.np_partition.proofs.ListedLaws.{listed_first, listed_more, memo_first}
use Rattle.np_partition.proofs.listing.list_regions.Goals as goal

pub loop-x-init : goal.loop-x-init
loop-x-init c = rw (c.new-nodes.ensures.items, c.new-places.ensures.items) (listed_first, memo_first c.new-memo.result c.new-memo.ensures)

pub loop-x-preserved : goal.loop-x-preserved
loop-x-preserved c =
    let xs = c.args.xs.now in
    let i = c.loop-x.x-index in
    let within : i < length xs = omega arith in
    rw (take_more xs i (record { at = 0 }) within, c.in_ok-push.ensures.items)
    (listed_more _ _ _ _ _ _ c.loop-x.invariant.0 c.in_ok-place.ensures.lists, c.in_ok-place.ensures.memo)
