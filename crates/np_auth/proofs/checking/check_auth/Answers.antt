use Rattle.std.proofs.Common.{◌≡◌, ◌∙◌, ap, get_or}
use Rattle.np_auth.proofs.AnswerLaws.{goal_right, goal_safe, goal_yes}
use Rattle.np_auth.proofs.checking.check_auth.Goals as goal

pub returns-clause-answer : goal.returns-clause-answer
returns-clause-answer c =
    let listed : c.as_slice.result.now ≡ c.args.net.now.ipgoals = c.as_slice.ensures ∙ ap (λ net. net.ipgoals) c.net.view_is in
    let at = c.index-as_slice-goal.is ∙ ap (λ l. get_or l c.args.goal c.index-as_slice-goal.result) listed in
    goal_right c.args.net.now c.args.goal c.answer.result c.index-as_slice-goal.result at c.in-Auth.from c.in-Auth.at c.in-Auth.pred c.in-Auth.is c.answer.ensures

pub returns-clause-yes : goal.returns-clause-yes
returns-clause-yes c = goal_yes c.args.net.now c.args.goal c.answer.result (returns-clause-answer c)

pub returns-clause-safe : goal.returns-clause-safe
returns-clause-safe c = goal_safe c.args.net.now c.args.goal c.answer.result (returns-clause-answer c)
