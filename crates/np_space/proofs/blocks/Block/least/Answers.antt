use Rattle.np_space.proofs.BlockLemmas.{least_is}
use Rattle.np_space.proofs.blocks.Block.least.Goals as goal

pub returns : goal.returns
returns c = least_is c.args.self.now
