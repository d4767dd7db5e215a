use Rattle.std.proofs.Common.{take}
use Rattle.np_space.specs.Block.{any_has}
use Rattle.np_region.specs.BlockLists.{IsLeastIfAny}
use Rattle.np_region.proofs.lists.least.Given as goal

abbrev pub invariant-loop-block : goal.invariant-loop-block
invariant-loop-block l = IsLeastIfAny (any_has (take l.block-index l.blocks)) l.best
