use Rattle.std.proofs.Common.{◌≡◌, ◌+◌, false, sym, ◌∙◌, ap, subst}
use Rattle.std.proofs.lemmas.Result.{on_ok_weaker}
use Rattle.np_flow.specs.Postures.{lets_atom}
use Rattle.np_synth.specs.Steps.{AreDroppedBefore}
use Rattle.np_synth.proofs.DroppingLaws.{breaks_opened, dropped_there, one_drop}
use Rattle.np_synth.proofs.dropping.drop_at.Goals as goal

pub drop_of-requires-clause-breaks : goal.drop_of-requires-clause-breaks
drop_of-requires-clause-breaks c =
    let slot = c.args.opened.now.slot in
    let atom = c.args.atom in
    let slots = c.args.posture.now.slots in
    let shut : lets_atom slots atom slot ≡ false = ap (λ l. lets_atom l atom slot) (sym c.as_slice.ensures) ∙ sym c.has.ensures ∙ c.if-has.false in
    breaks_opened c.args.net.now c.args.case.now slots slot c.args.opened.now.posture.slots c.requires.opening.opens atom c.requires.within
    (c.requires.full slot atom c.requires.opening.place c.requires.within c.requires.free shut)

pub returns : goal.returns
returns c =
    let net = c.args.net.now in
    let case = c.args.case.now in
    let slot = c.args.opened.now.slot in
    let atom = c.args.atom in
    let slots = c.args.posture.now.slots in
    let drop = c.in_ok-drop_of.field-0 in
    let shut : lets_atom slots atom slot ≡ false = ap (λ l. lets_atom l atom slot) (sym c.as_slice.ensures) ∙ sym c.has.ensures ∙ c.if-has.false in
    let is = dropped_there net case slots slot c.args.opened.now.posture.slots c.requires.opening.opens atom c.requires.within drop c.requires.opening.place c.requires.free shut c.in_ok-drop_of.ensures in
    on_ok_weaker c.push.result
    (λ e. subst (λ ds. AreDroppedBefore net case slots slot (atom + 1) ds) (sym e)
    (one_drop net case slots slot atom c.args.dropped.now c.requires.dropped drop c.in_ok-drop_of.ensures.slot_is c.in_ok-drop_of.ensures.atom_is c.requires.within is)) c.push.ensures.ok
