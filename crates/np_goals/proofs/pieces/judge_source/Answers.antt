use Rattle.std.proofs.Common.{◌∷◌, [], length}
use Rattle.std.proofs.lemmas.Result.{IfOk-weaker}
use Rattle.np_goals.specs.Sources.{BeginsBefore, BeginsIn}
use Rattle.np_goals.proofs.SourceLaws.{fewer_judged, begins_alone}
use Rattle.np_goals.proofs.pieces.judge_source.Goals as goal

pub returns : goal.returns
returns c =
    let net = c.args.net.now in
    let source = c.args.source in
    IfOk-weaker c.judge_goals.result _ _ (λ results are. fewer_judged net c.args.case.now (BeginsBefore net.goals source (length net.goals)) (BeginsIn net.goals (source ∷ [])) results (λ k below begins. begins_alone net.goals source k below begins) are) c.judge_goals.ensures
