use Rattle.std.proofs.Common.{◌≡◌, ◌∙◌, get_or, ap, sym, subst}
use Rattle.std.proofs.lemmas.List.{get_or_default}
use Rattle.np_pred.specs.declared.predicate.Pred.TheVariants as predicates
use Rattle.np_net.specs.declared.associations.IpGoal.TheVariants as goals
use Rattle.np_conf.specs.Answers.{IsAnswerTo, ipgoal_at}
use Rattle.np_conf.proofs.AnswerLaws.{yes_safe}
use Rattle.np_conf.proofs.checking.check_conf.Goals as goal

pub returns-clause-safe : goal.returns-clause-safe
returns-clause-safe c = λ e depth.
    let listed : c.as_slice.result.now ≡ c.args.net.now.ipgoals = c.as_slice.ensures ∙ ap (λ net. net.ipgoals) c.net.view_is in
    let at = c.index-as_slice-goal.is ∙ ap (λ l. get_or l c.args.goal c.index-as_slice-goal.result) listed in
    let same : ipgoal_at c.args.net.now c.args.goal ≡ goals.Conf c.in-Conf.from c.in-Conf.pred =
    get_or_default c.args.net.now.ipgoals c.args.goal (goals.Conf 0 predicates.Nothing) c.index-as_slice-goal.result c.requires.goal ∙ sym at ∙ c.in-Conf.is in
    yes_safe c.args.net.now (ipgoal_at c.args.net.now c.args.goal) c.check.result (subst (λ g. IsAnswerTo c.args.net.now g c.check.result) (sym same) c.check.ensures) e depth
