use Rattle.std.proofs.Common.{◌≡◌, length, sym, subst}
use Rattle.np_synth.specs.Steps.{AreSlots, IsOpened}
use Rattle.np_synth.proofs.StepLaws.{filled_there}
use Rattle.np_synth.proofs.choosing.fill.Goals as goal

pub returns : goal.returns
returns c =
    let net = c.args.net.now in
    let case = c.args.case.now in
    let before = c.args.posture.now.slots in
    let opening = c.in_ok-opened.opened.slots in
    let atoms : c.len.result ≡ length case.leasts = c.len.ensures in
    let slots : AreSlots net.interfaces c.len.result before = subst (λ n. AreSlots net.interfaces n before) (sym atoms) c.requires.slots in
    let opens : IsOpened net.interfaces (length case.leasts) c.args.slot before opening = subst (λ n. IsOpened net.interfaces n c.args.slot before opening) atoms (c.in_ok-opened.ensures net.interfaces slots) in
    filled_there net case c.args.slot before opening c.set.new.self c.in_ok-broken.broken c.in_ok-kept.kept c.requires.place c.requires.slots opens c.in_ok-broken.ensures c.in_ok-kept.ensures c.set.ensures
