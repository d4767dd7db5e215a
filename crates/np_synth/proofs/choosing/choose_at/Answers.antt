use Rattle.std.proofs.Common.{◌≡◌, true, false, get_or, sym, ◌∙◌, ap}
use Rattle.std.proofs.lemmas.Result.{on_ok_weaker}
use Rattle.np_synth.specs.Choosing.{is_free}
use Rattle.np_synth.proofs.StepLaws.{chosen_filled}
use Rattle.np_synth.proofs.choosing.choose_at.Goals as goal

pub returns : goal.returns
returns c =
    let net = c.args.net.now in
    let slot = c.args.slot in
    let free : is_free net.free slot ≡ true = ap (λ p. get_or p.free slot false) (sym c.net.view_is) ∙ ap (λ l. get_or l slot false) (sym c.as_slice.ensures) ∙ c.if-not-as_slice-slot.false in
    on_ok_weaker c.fill.result (chosen_filled net c.args.case.now slot c.args.posture.now.slots c.fill.new.posture.slots c.requires.place free c.requires.chosen) c.fill.ensures
