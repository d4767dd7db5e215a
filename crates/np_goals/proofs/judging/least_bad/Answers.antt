use Rattle.std.proofs.Common.{◌≡◌, ◌<◌, length, get_or, sym, ◌∙◌, ap, subst, arith}
use Rattle.std.proofs.lemmas.Result.{IfOk-weaker}
use Rattle.np_net.specs.Network.{IsNetwork}
use Rattle.np_goals.specs.Judging.{IsFlowFrom}
use Rattle.np_goals.proofs.StepLaws.{common_fits, bad_from_both}
use Rattle.np_goals.proofs.judging.least_bad.Goals as goal

pub first_common-requires : goal.first_common-requires
first_common-requires c =
    let net = c.args.net.now in
    let case = c.args.case.now in
    let k = c.args.k in
    let goal = c.index-as_slice-k.result in
    let bad = c.index-as_slice-k-2.result in
    let is : IsNetwork net = subst IsNetwork c.net.view_is c.net.invariant in
    let at : goal ≡ get_or net.goals k goal = c.index-as_slice-k.is ∙ ap (λ l. get_or l k goal) c.as_slice.ensures ∙ ap (λ p. get_or p.goals k goal) c.net.view_is in
    let bad_at : bad ≡ get_or case.bad k bad = c.index-as_slice-k-2.is ∙ ap (λ l. get_or l k bad) c.as_slice-2.ensures in
    let flow : IsFlowFrom net case.posture.slots goal.from c.args.reached.now.sets =
    subst (λ a. IsFlowFrom net case.posture.slots a c.args.reached.now.sets) (sym (ap (λ g. g.from) at ∙ c.requires.begins goal)) c.requires.flow in
    common_fits net case k goal bad c.at.result.now c.args.reached.now.sets is c.requires.sizes c.requires.goal at bad_at c.at.ensures flow

pub returns : goal.returns
returns c =
    let net = c.args.net.now in
    let case = c.args.case.now in
    let k = c.args.k in
    let goal = c.index-as_slice-k.result in
    let bad = c.index-as_slice-k-2.result in
    let is : IsNetwork net = subst IsNetwork c.net.view_is c.net.invariant in
    let at : goal ≡ get_or net.goals k goal = c.index-as_slice-k.is ∙ ap (λ l. get_or l k goal) c.as_slice.ensures ∙ ap (λ p. get_or p.goals k goal) c.net.view_is in
    let bad_at : bad ≡ get_or case.bad k bad = c.index-as_slice-k-2.is ∙ ap (λ l. get_or l k bad) c.as_slice-2.ensures in
    let in_bad : k < length case.bad = omega (arith, c.requires.sizes.goals_each, c.requires.goal) in
    let flow : IsFlowFrom net case.posture.slots goal.from c.args.reached.now.sets =
    subst (λ a. IsFlowFrom net case.posture.slots a c.args.reached.now.sets) (sym (ap (λ g. g.from) at ∙ c.requires.begins goal)) c.requires.flow in
    IfOk-weaker c.first_common.result _ _ (λ found both. bad_from_both net case k goal bad c.at.result.now c.args.reached.now.sets found is c.requires.goal at in_bad bad_at c.at.ensures flow both) c.first_common.ensures
