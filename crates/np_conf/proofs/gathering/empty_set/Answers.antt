use Rattle.np_net.specs.Limits.{declaration_limit}
use Rattle.np_conf.proofs.SetLaws.{empty_replicate}
use Rattle.np_conf.proofs.gathering.empty_set.Goals as goal

pub returns : goal.returns
returns c = empty_replicate declaration_limit
