use Rattle.np_flow.proofs.JoinLaws.{grew_more, marked_more}
use Rattle.np_flow.proofs.SpreadLaws.{added_more}
use Rattle.np_flow.proofs.rounds.leave_all.Goals as goal

pub leave_if_fresh-grew-requires-clause-areas : goal.leave_if_fresh-grew-requires-clause-areas
leave_if_fresh-grew-requires-clause-areas c = c.loop-n.invariant.added.widths _ c.requires.areas

pub leave_if_fresh-grew-requires-clause-done : goal.leave_if_fresh-grew-requires-clause-done
leave_if_fresh-grew-requires-clause-done c atom stale leaves = c.loop-n.invariant.added.kept _ atom (c.requires.done c.loop-n.n c.loop-n-test.true atom stale leaves)

pub loop-n-preserved : goal.loop-n-preserved
loop-n-preserved c = record {
  added = added_more _ _ _ _ _ _ c.loop-n.invariant.added c.leave_if_fresh-grew.ensures.adds;
  grew = grew_more c.loop-n.grew c.leave_if_fresh-grew.result _ c.loop-n.areas _ c.loop-n.invariant.grew c.leave_if_fresh-grew.ensures.grew c.leave_if_fresh-grew.ensures.same;
  marked = marked_more _ _ _ _ _ c.loop-n.invariant.marked c.leave_if_fresh-grew.ensures.marked c.leave_if_fresh-grew.ensures.stay;
}
