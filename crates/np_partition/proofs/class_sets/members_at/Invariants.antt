use Rattle.np_partition.proofs.SetLaws.{IsSetTo}
use Rattle.np_partition.proofs.class_sets.members_at.Given as goal

abbrev pub invariant-loop-k : goal.invariant-loop-k
invariant-loop-k l = IsSetTo l.set l.numbers l.k l.members
