use Rattle.std.proofs.Common.{◌∙◌, ap, subst}
use Rattle.std.proofs.lemmas.Result.{IfOk-weaker}
use Rattle.np_net.specs.Network.{IsNetwork}
use Rattle.np_goals.proofs.SourceLaws.{sources_fit, sources_serve}
use Rattle.np_goals.proofs.sources.sources_of.Goals as goal

pub returns-clause-areas : goal.returns-clause-areas
returns-clause-areas c =
    IfOk-weaker c.of_goals.result _ _ (λ sources are. sources_fit c.args.net.now c.as_slice.result.now sources (subst IsNetwork c.net.view_is c.net.invariant) (c.as_slice.ensures ∙ ap (λ p. p.goals) c.net.view_is) are) c.of_goals.ensures

pub returns-clause-all : goal.returns-clause-all
returns-clause-all c =
    IfOk-weaker c.of_goals.result _ _ (λ sources are. sources_serve c.args.net.now c.as_slice.result.now sources (c.as_slice.ensures ∙ ap (λ p. p.goals) c.net.view_is) are) c.of_goals.ensures
