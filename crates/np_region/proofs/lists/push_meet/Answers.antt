use Rattle.np_region.proofs.BlockListLemmas.{meet_added}
use Rattle.np_region.proofs.lists.push_meet.Goals as goal

pub returns-in_ok-push-in-Some : goal.returns-in_ok-push-in-Some
returns-in_ok-push-in-Some c =
    rw c.in_ok-push-in-Some.ensures.items (meet_added c.args.x.now c.args.y.now c.in-Some.common c.args.blocks.now.items c.requires c.in-Some.ensures.exact)
