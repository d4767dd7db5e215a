use Rattle.std.proofs.Common.{◌≡◌}
use Rattle.np_net_read.specs.Declaring.{free_flags}
use Rattle.np_net_read.proofs.reading.free_flags.Given as goal

-- the flags of the slots so far
abbrev pub invariant-loop-slot : goal.invariant-loop-slot
invariant-loop-slot l = l.flags.items ≡ free_flags l.freed.keys l.slot
