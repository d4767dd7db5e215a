use Rattle.np_flow.proofs.DistanceLaws.{nearer_more, fewer_more}
use Rattle.np_flow.proofs.distances.approach_all.Goals as goal

pub loop-n-preserved : goal.loop-n-preserved
loop-n-preserved c = record {
  nearer = nearer_more _ _ _ _ _ _ _ _ c.loop-n.invariant.nearer c.approach-grew.ensures.nearer;
  grew = fewer_more c.loop-n.grew c.approach-grew.result c.args.distances.now c.loop-n.distances c.approach-grew.new.distances c.loop-n.invariant.grew c.approach-grew.ensures.grew c.approach-grew.ensures.same;
}
