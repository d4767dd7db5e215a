use Rattle.std.proofs.Common.{refl}
use Rattle.np_space.specs.Block.{block_has}
use Rattle.np_cut.proofs.field_blocks.block_of.Goals as goal

pub returns : goal.returns
unfolding block_has
returns c = λ h. refl
