use Rattle.std.proofs.Common.{◌≡◌, take}
use Rattle.np_acl.proofs.ports.Ports.copy.Given as goal

abbrev pub invariant-loop-part : goal.invariant-loop-part
invariant-loop-part l = l.copy ≡ take l.part-index l.self
