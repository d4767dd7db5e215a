use Rattle.np_region.proofs.BlockListLemmas.{minus_added}
use Rattle.np_region.proofs.lists.push_minus.Goals as goal

pub returns : goal.returns
returns c =
    rw (c.in_ok-extend_from_slice.ensures.items, c.deref.ensures.value) (minus_added c.args.x.now c.args.y.now c.args.blocks.now.items c.in_ok-rest.rest.items c.requires c.in_ok-rest.ensures.once)
