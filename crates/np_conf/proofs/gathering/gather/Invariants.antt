use Rattle.std.proofs.Common.{not}
use Rattle.std.specs.List.{count_by}
use Rattle.np_conf.specs.Sets.{IsGathered}
use Rattle.np_conf.proofs.gathering.gather.Given as goal

abbrev pub invariant-adding : goal.invariant-adding
invariant-adding l = IsGathered l.net l.from l.pred l.set l.done

abbrev pub decreases-adding : goal.decreases-adding
decreases-adding l = count_by not l.done
