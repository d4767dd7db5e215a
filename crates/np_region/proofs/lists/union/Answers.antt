use Rattle.np_region.proofs.BlockListLemmas.{union_listed}
use Rattle.np_region.proofs.lists.union.Goals as goal

pub returns : goal.returns
returns c =
    rw c.in_ok-extend_from_slice.ensures.items (union_listed c.args.xs.now c.args.ys.now c.in_ok-blocks.blocks.items c.requires.first c.in_ok-blocks.ensures)
