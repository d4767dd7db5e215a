use Rattle.np_synth.specs.Steps.{AreMet}
use Rattle.np_synth.proofs.choosing.first_broken.Given as goal

-- none of the goals so far is broken
abbrev pub invariant-loop-k : goal.invariant-loop-k
invariant-loop-k l = AreMet l.net l.case l.posture.slots l.k
