use Rattle.np_net_text.proofs.ParallelLaws.{left_step, none_left, free_lines-short, free_lines-end, free_lines-step}
use Rattle.np_net_text.proofs.canonical.put_free.Goals as goal

pub returns-in_default : goal.returns-in_default
returns-in_default c = none_left _ _ _ c.loop-interface.invariant (free_lines-short c.args.net.now _ _ c.in_default.len_below)

pub loop-interface-preserved : goal.loop-interface-preserved
loop-interface-preserved c =
    left_step _ _ _ _ _
    (left_step _ _ _ _ _
    (rw (free_lines-step c.args.net.now c.args.interfaces.now c.loop-interface.interface-index c.interface-item.result c.loop-interface.flags.now c.loop-interface-test.true c.interface-item.is c.in-len2-up.len_at_least) at c.loop-interface.invariant)
    c.in_ok-put_slot.ensures)
    c.in_ok-put_slot-2.ensures

pub returns : goal.returns
returns c = none_left _ _ _ c.loop-interface.invariant (free_lines-end c.args.net.now c.args.interfaces.now c.loop-interface.interface-index _ c.loop-interface-test.false)
