use Rattle.std.proofs.Common.{◌*◌, [], take}
use Rattle.np_space.specs.Block.{count_having}
use Rattle.np_region.specs.BlockLists.{HasAdded}
use Rattle.np_region.proofs.lists.common.Given as goal

abbrev pub invariant-loop-y : goal.invariant-loop-y
invariant-loop-y l =
    HasAdded (λ h. count_having (take l.y-index l.ys) h * count_having l.xs h) [] l.blocks.items
