use Rattle.np_flow.proofs.JoinLaws.{marked_more}
use Rattle.np_flow.proofs.SpreadLaws.{added_more}
use Rattle.np_flow.proofs.rounds.enter_all.Goals as goal

pub enter_if_fresh-requires-clause-devices : goal.enter_if_fresh-requires-clause-devices
enter_if_fresh-requires-clause-devices c = c.loop-n.invariant.added.widths _ c.requires.devices

pub enter_if_fresh-requires-clause-done : goal.enter_if_fresh-requires-clause-done
enter_if_fresh-requires-clause-done c atom stale enters = c.loop-n.invariant.added.kept _ atom (c.requires.done c.loop-n.n c.loop-n-test.true atom stale enters)

pub loop-n-preserved : goal.loop-n-preserved
loop-n-preserved c = record {
  added = added_more _ _ _ _ _ _ c.loop-n.invariant.added c.enter_if_fresh.ensures.adds;
  marked = marked_more _ _ _ _ _ c.loop-n.invariant.marked c.enter_if_fresh.ensures.marked c.enter_if_fresh.ensures.stay;
}
