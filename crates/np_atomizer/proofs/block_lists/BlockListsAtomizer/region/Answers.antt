use Rattle.std.proofs.Common.{sym, subst}
use Rattle.np_space.specs.Block.{any_has}
use Rattle.np_region.specs.BlockLists.{IsBlockList}
use Rattle.np_atomizer.specs.Splitting.{DivideValid}
use Rattle.np_atomizer.proofs.block_lists.BlockListsAtomizer.region.Goals as goal

pub region_at-requires-clause-divide : goal.region_at-requires-clause-divide
region_at-requires-clause-divide c = subst (DivideValid IsBlockList any_has) (sym c.as_slice.ensures.value) c.requires.classes
