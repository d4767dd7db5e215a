use Rattle.np_synth.specs.Steps.{AreChosen}
use Rattle.np_synth.proofs.choosing.choose.Given as goal

abbrev pub invariant-loop-slot : goal.invariant-loop-slot
invariant-loop-slot l = AreChosen l.net l.case l.slot l.posture.slots
