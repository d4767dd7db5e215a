use Rattle.np_synth.specs.Steps.{AreBreakingEach}
use Rattle.np_synth.proofs.dropping.breaking_each.Given as goal

abbrev pub invariant-loop-k : goal.invariant-loop-k
invariant-loop-k l = AreBreakingEach l.net l.case l.posture.slots l.k l.sets
