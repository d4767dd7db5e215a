use Rattle.std.proofs.Common.{◌≡◌, ◌<◌, false, length, get_or, ◌∙◌, ap, arith}
use Rattle.np_synth.proofs.StepLaws.{shut_more}
use Rattle.np_synth.proofs.choosing.shut_posture.Goals as goal

pub loop-slot-preserved : goal.loop-slot-preserved
loop-slot-preserved c =
    let net = c.args.net.now in
    let case = c.args.case.now in
    let slot = c.loop-slot.slot in
    let old = c.index-as_slice-slot.result in
    let below : slot < length case.posture.slots = omega (arith, ap (λ p. length p.interfaces) c.net.view_is) in
    let free : get_or c.as_slice.result.now slot false ≡ get_or net.free slot false = ap (λ l. get_or l slot false) c.as_slice.ensures ∙ ap (λ p. get_or p.free slot false) c.net.view_is in
    let old_at : old ≡ get_or case.posture.slots slot old = c.index-as_slice-slot.is ∙ ap (λ l. get_or l slot old) c.as_slice-in-loop-slot.ensures in
    rw c.in_ok-push.ensures.ok (shut_more net case slot c.loop-slot.slots (get_or c.as_slice.result.now slot false) old c.in_ok-shut_set.field-0 c.requires below free old_at c.loop-slot.invariant c.in_ok-shut_set.ensures)
