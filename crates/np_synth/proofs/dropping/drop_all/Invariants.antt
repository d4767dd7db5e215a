use Rattle.np_synth.specs.Steps.{AreDroppedBefore}
use Rattle.np_synth.proofs.dropping.drop_all.Given as goal

abbrev pub invariant-loop-atom : goal.invariant-loop-atom
invariant-loop-atom l = AreDroppedBefore l.net l.case l.posture.slots l.opened.slot l.atom l.dropped
