use Rattle.np_synth.proofs.StepLaws.{attained_of_met, full_from_chosen, synthesis_from_chosen}
use Rattle.np_synth.proofs.choosing.synthesise.Goals as goal

pub dropped-requires-clause-full : goal.dropped-requires-clause-full
dropped-requires-clause-full c = full_from_chosen c.args.net.now c.args.case.now c.choose.new.posture.slots c.in_ok-choose.ensures

pub returns-clause-chosen : goal.returns-clause-chosen
returns-clause-chosen c =
    let net = c.args.net.now in
    let case = c.args.case.now in
    synthesis_from_chosen net case c.choose.new.posture.slots c.in_ok-dropped.dropped
    (attained_of_met net case c.in_ok-posture.posture.slots c.in_ok-posture.ensures c.in_ok-attained.ensures.met) c.in_ok-choose.ensures c.in_ok-dropped.ensures
