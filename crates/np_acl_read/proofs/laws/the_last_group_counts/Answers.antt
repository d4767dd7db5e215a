use Rattle.np_acl_read.proofs.CountingLaws.{last_group_counts}
use Rattle.np_acl_read.proofs.laws.the_last_group_counts.Goals as goal

pub returns : goal.returns
returns c = last_group_counts
