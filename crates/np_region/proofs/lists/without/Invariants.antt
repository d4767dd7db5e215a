use Rattle.std.proofs.Common.{◌*◌, [], take}
use Rattle.std.specs.Prelude.{not}
use Rattle.np_space.specs.Flag.{flag_number}
use Rattle.np_space.specs.Block.{block_has, count_having}
use Rattle.np_region.specs.BlockLists.{HasAdded}
use Rattle.np_region.proofs.lists.without.Given as goal

abbrev pub invariant-loop-x : goal.invariant-loop-x
invariant-loop-x l =
    HasAdded (λ h. count_having (take l.x-index l.xs) h * flag_number (not (block_has l.y h))) [] l.blocks.items
