use denote.Param.Send.{param_send, arg_send, shr_send, shr_slice_send, struct_send, recorded_send, plain_send, plain_sync}
use Rattle.std.proofs.Common.{rules}
use Rattle.std.proofs.Crossing.{send}
use Rattle.std.proofs.lemmas.Result.{IfOk-at_ok}
use Rattle.np_goals.specs.Sources.{AreJudged, BeginsIn}
use Rattle.np_goals.proofs.Sent.{network_sync}
use Rattle.np_goals.proofs.SourceLaws.{both_judged}
use Rattle.np_goals.proofs.cases.Case.TheSendSync as cases
use Rattle.np_goals.proofs.halves.+halves.Goals as goal

-- the thread has the runtime, the network, the case, its areas and the gate by reference
pub join-some-requires-send-F : goal.join-some-requires-send-F
join-some-requires-send-F g t c κs = λ lives. search (param_send, arg_send, shr_send, shr_slice_send, struct_send, recorded_send, plain_send, plain_sync, send, network_sync, cases.the_sync) depth 20

pub join-some-requires-after_bounds : goal.join-some-requires-after_bounds
join-some-requires-after_bounds g t c κs =
    let first = c.halved.ensures.areas_first _ c.requires.areas in
    let second = c.halved.ensures.areas_second _ c.requires.areas in
    λ lives. search rules depth 20

pub returns : goal.returns
returns g t c =
    let net = c.args.net.now in
    let case = c.args.case.now in
    let first = c.halved.result.0.now in
    let second = c.halved.result.1.now in
    rw (c.in_ok-append.ensures, c.halved.ensures.whole) (both_judged net case first second _ _
    (IfOk-at_ok (λ results. AreJudged net case (BeginsIn net.goals first) results) {r = c.join-some.result.0} c.in_ok-results.was c.join-some.ensures.first)
    (IfOk-at_ok (λ results. AreJudged net case (BeginsIn net.goals second) results) {r = c.join-some.result.1} c.in_ok-rest.was c.join-some.ensures.second))
