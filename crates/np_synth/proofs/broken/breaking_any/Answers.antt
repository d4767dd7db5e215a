use Rattle.np_synth.proofs.BreakingLaws.{breaking_more}
use Rattle.np_synth.proofs.broken.breaking_any.Goals as goal

pub loop-k-preserved : goal.loop-k-preserved
loop-k-preserved c =
    breaking_more c.args.net.now c.args.case.now c.args.posture.now.slots c.loop-k.k c.loop-k.all c.in_ok-more.more c.join_with.new.self c.loop-k.invariant c.in_ok-more.ensures c.join_with.ensures.all
