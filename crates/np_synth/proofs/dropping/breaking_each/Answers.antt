use Rattle.np_synth.proofs.DroppingLaws.{each_more}
use Rattle.np_synth.proofs.dropping.breaking_each.Goals as goal

pub loop-k-preserved : goal.loop-k-preserved
loop-k-preserved c =
    rw c.in_ok-push.ensures.ok (each_more c.args.net.now c.args.case.now c.args.posture.now.slots c.loop-k.k c.loop-k.sets c.in_ok-breaking.field-0 c.loop-k.invariant c.in_ok-breaking.ensures)
