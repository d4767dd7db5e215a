use Rattle.np_synth.specs.Steps.{AreBreakingSome}
use Rattle.np_synth.proofs.broken.breaking_any.Given as goal

abbrev pub invariant-loop-k : goal.invariant-loop-k
invariant-loop-k l = AreBreakingSome l.net l.case l.posture.slots l.k l.all
