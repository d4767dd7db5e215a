use Rattle.np_space.proofs.ClassLaws.{leasts_are_unique}
use Rattle.np_space.proofs.laws.leasts_are_unique.Goals as goal

pub returns : goal.returns
returns c = leasts_are_unique
