use Rattle.std.proofs.Common.{◌+◌, rules}
use Rattle.np_goals.specs.Sources.{BeginsBefore}
use Rattle.np_goals.proofs.SourceLaws.{one_judged, split_there, judged_there}
use Rattle.np_goals.proofs.pieces.judge_goal.Goals as goal

pub returns-in_ok-push : goal.returns-in_ok-push
returns-in_ok-push c =
    let net = c.args.net.now in
    let case = c.args.case.now in
    let goals = net.goals in
    let k = c.args.k in
    let source = c.args.source in
    rw c.in_ok-push.ensures.ok (one_judged net case (BeginsBefore goals source k) (BeginsBefore goals source (k + 1)) _ _ (λ n before. split_there goals source k n before) (judged_there net case source k c.index-as_slice-k.result c.in_ok-verdict.verdict c.requires.goal (search rules) (search rules) c.in_ok-verdict.ensures) c.requires.before)
