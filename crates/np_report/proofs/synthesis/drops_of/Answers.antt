use Rattle.np_report.proofs.DropLaws.{drops_between}
use Rattle.np_report.proofs.synthesis.drops_of.Goals as goal

pub returns-clause-drops : goal.returns-clause-drops
returns-clause-drops c = drops_between c.args.drops.now c.args.slot c.args.first c.end_of.result c.requires.first c.end_of.ensures.end c.end_of.ensures.order
