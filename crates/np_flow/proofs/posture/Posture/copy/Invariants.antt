use Rattle.std.proofs.Common.{◌≡◌, take}
use Rattle.np_flow.proofs.posture.Posture.copy.Given as goal

abbrev pub invariant-loop-set : goal.invariant-loop-set
invariant-loop-set l = l.slots ≡ take l.set-index l.self.slots
