use Rattle.std.proofs.Common.{◌≡◌, map, take}
use Rattle.np_entry_read.specs.Spans.{only}
use Rattle.np_entry_read.proofs.spans.each.Given as goal

abbrev pub invariant-loop-port : goal.invariant-loop-port
invariant-loop-port l = l.spans ≡ map only (take l.port-index l.ports)
