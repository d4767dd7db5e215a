use Rattle.std.proofs.Common.{rules}
use Rattle.np_net_read.proofs.NetworkLaws.{flags_more}
use Rattle.np_net_read.proofs.reading.free_flags.Goals as goal

pub loop-slot-preserved : goal.loop-slot-preserved
loop-slot-preserved c = rw (c.in_ok-push.ensures.items, c.contains.ensures, c.loop-slot.invariant, flags_more c.args.freed.now.keys c.loop-slot.slot) (search rules)
