use Rattle.np_acl_read.proofs.CountingLaws.{entry_of_number, numbers_ascend}
use Rattle.np_acl_read.proofs.NewNumberLaws.{numbers_apart}
use Rattle.np_acl_read.proofs.laws.entries_are_those_declared.Goals as goal

pub returns : goal.returns
returns c = record { ascend = numbers_ascend; declared = entry_of_number; once = numbers_apart }
