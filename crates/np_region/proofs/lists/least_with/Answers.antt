use Rattle.np_space.specs.Block.{block_has}
use Rattle.np_region.proofs.BlockListLemmas.{lesser_least, first_least}
use Rattle.np_region.proofs.lists.least_with.Goals as goal

pub returns-in-Some : goal.returns-in-Some
returns-in-Some c = λ test best.
    rw c.lesser.ensures (lesser_least test (block_has c.args.block.now) c.in-Some.first c.least-least.result (rw c.in-Some.is at best) c.least-least.ensures)

pub returns-in-None : goal.returns-in-None
returns-in-None c = λ test best.
    first_least test (block_has c.args.block.now) c.least-least.result (rw c.in-None.is at best) c.least-least.ensures
