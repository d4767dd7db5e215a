use Rattle.np_synth.specs.Steps.{AreShut}
use Rattle.np_synth.proofs.choosing.shut_posture.Given as goal

abbrev pub invariant-loop-slot : goal.invariant-loop-slot
invariant-loop-slot l = AreShut l.net l.case l.slot l.slots
