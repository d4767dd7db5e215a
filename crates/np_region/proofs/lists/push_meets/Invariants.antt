use Rattle.std.proofs.Common.{◌*◌, take}
use Rattle.np_space.specs.Flag.{flag_number}
use Rattle.np_space.specs.Block.{block_has, count_having}
use Rattle.np_region.specs.BlockLists.{HasAdded}
use Rattle.np_region.proofs.lists.push_meets.Given as goal

abbrev pub invariant-loop-other : goal.invariant-loop-other
invariant-loop-other l =
    HasAdded (λ h. flag_number (block_has l.block h) * count_having (take l.other-index l.others) h) l.fn.blocks.items l.blocks.items
