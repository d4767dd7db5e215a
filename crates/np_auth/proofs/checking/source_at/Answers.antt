use Rattle.std.proofs.Common.{◌∙◌, sym}
use Rattle.np_auth.proofs.SearchLaws.{source_found}
use Rattle.np_auth.proofs.checking.source_at.Goals as goal

pub returns : goal.returns
returns c =
    source_found c.args.net.now c.args.pred.now c.requires.goal c.args.leasts.now c.requires.leasts c.args.from c.args.a c.requires.area (sym c.is_trusted.ensures ∙ c.if-not-is_trusted.false) c.if-a-from.false c.first_sent.result c.first_sent.ensures
