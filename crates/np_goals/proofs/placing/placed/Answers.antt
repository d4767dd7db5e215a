use Rattle.std.proofs.Common.{rules}
use Rattle.np_goals.proofs.SourceLaws.{none_placed}
use Rattle.np_goals.proofs.placing.placed.Goals as goal

pub fill-requires : goal.fill-requires
fill-requires c =
    none_placed c.args.net.now c.args.case.now c.requires.0 c.args.results _ (search rules) c.requires.1 c.requires.2
