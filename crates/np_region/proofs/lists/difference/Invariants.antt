use Rattle.std.proofs.Common.{take}
use Rattle.std.specs.Prelude.{◌&&◌, not}
use Rattle.np_space.specs.Block.{any_has}
use Rattle.np_region.specs.BlockLists.{IsListOf}
use Rattle.np_region.proofs.lists.difference.Given as goal

abbrev pub invariant-loop-y : goal.invariant-loop-y
invariant-loop-y l =
    IsListOf (λ h. any_has l.xs h && not (any_has (take l.y-index l.ys) h)) l.rest.items
