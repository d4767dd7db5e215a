use Rattle.std.proofs.lemmas.Slice.Eq.{slice_eq-Decides}
use Rattle.np_acl.proofs.SameLaws.{patterns_decide}
use Rattle.np_cut.proofs.made_regions.are_same.Goals as goal

pub returns : goal.returns
returns c = slice_eq-Decides patterns_decide c.args.patterns.now c.args.others.now c.eq.result c.eq.ensures
