use Rattle.np_cut.proofs.FieldLaws.{one_flag}
use Rattle.np_cut.proofs.field_blocks.set_flag.Goals as goal

pub returns-clause-has : goal.returns-clause-has
returns-clause-has c = one_flag
