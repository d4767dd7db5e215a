use Rattle.std.proofs.Common.{◌≡◌, get_or, ◌∙◌, ap, subst}
use Rattle.std.proofs.lemmas.Result.{IfOk-weaker}
use Rattle.np_net.specs.Network.{IsNetwork}
use Rattle.np_goals.specs.Judging.{IsFlowFrom}
use Rattle.np_goals.proofs.StepLaws.{flow_found, common_fits}
use Rattle.np_synth.proofs.BreakingLaws.{with_slots, sizes_with_slots, breaking_from_common}
use Rattle.np_synth.proofs.broken.breaking.Goals as goal

pub common-requires : goal.common-requires
common-requires c =
    let net = c.args.net.now in
    let case = c.args.case.now in
    let slots = c.args.posture.now.slots in
    let k = c.args.k in
    let goal = c.index-as_slice-k.result in
    let bad = c.index-as_slice-k-in-Some.result in
    let is : IsNetwork net = subst IsNetwork c.net.view_is c.net.invariant in
    let at : goal ≡ get_or net.goals k goal = c.index-as_slice-k.is ∙ ap (λ l. get_or l k goal) c.as_slice.ensures ∙ ap (λ p. get_or p.goals k goal) c.net.view_is in
    let bad_at : bad ≡ get_or case.bad k bad = c.index-as_slice-k-in-Some.is ∙ ap (λ l. get_or l k bad) c.as_slice-in-Some.ensures in
    let flow : IsFlowFrom net slots goal.from c.in-Some.reached.sets =
    flow_found net slots c.args.flows.now k goal c.index-flows-goal.result c.in-Some.reached is c.requires.flows c.requires.goal at c.index-flows-goal.is c.in-Some.is in
    common_fits net (with_slots case slots) k goal bad c.at.result.now c.in-Some.reached.sets is (sizes_with_slots net case slots c.requires.sizes c.requires.slots) c.requires.goal at bad_at c.at.ensures flow

pub returns : goal.returns
returns c =
    let net = c.args.net.now in
    let case = c.args.case.now in
    let slots = c.args.posture.now.slots in
    let k = c.args.k in
    let goal = c.index-as_slice-k.result in
    let bad = c.index-as_slice-k-in-Some.result in
    let is : IsNetwork net = subst IsNetwork c.net.view_is c.net.invariant in
    let at : goal ≡ get_or net.goals k goal = c.index-as_slice-k.is ∙ ap (λ l. get_or l k goal) c.as_slice.ensures ∙ ap (λ p. get_or p.goals k goal) c.net.view_is in
    let bad_at : bad ≡ get_or case.bad k bad = c.index-as_slice-k-in-Some.is ∙ ap (λ l. get_or l k bad) c.as_slice-in-Some.ensures in
    let flow : IsFlowFrom net slots goal.from c.in-Some.reached.sets =
    flow_found net slots c.args.flows.now k goal c.index-flows-goal.result c.in-Some.reached is c.requires.flows c.requires.goal at c.index-flows-goal.is c.in-Some.is in
    IfOk-weaker c.common.result _ _ (λ set are. breaking_from_common net case slots k goal bad c.at.result.now set c.in-Some.reached.sets is c.requires.sizes c.requires.goal at bad_at c.at.ensures flow are) c.common.ensures
