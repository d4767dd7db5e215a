use Rattle.std.proofs.Common.{subst}
use Rattle.np_auth.specs.Searches.{FindsPassage}
use Rattle.np_auth.proofs.SearchLaws.{passage_found}
use Rattle.np_auth.proofs.checking.first_forged.Goals as goal

pub returns : goal.returns
returns c =
    passage_found c.args.net.now c.args.pred.now c.requires.goal c.args.leasts.now c.requires.leasts c.args.passages.now c.requires.passages c.first_passage.result
    (subst (λ list. FindsPassage list c.args.leasts.now c.args.pred.now c.first_passage.result) c.as_slice.ensures c.first_passage.ensures)
