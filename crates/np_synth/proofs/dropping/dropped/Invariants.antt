use Rattle.np_synth.specs.Steps.{AreDroppedBefore}
use Rattle.np_synth.proofs.dropping.dropped.Given as goal

abbrev pub invariant-loop-slot : goal.invariant-loop-slot
invariant-loop-slot l = AreDroppedBefore l.net l.case l.posture.slots l.slot 0 l.dropped
