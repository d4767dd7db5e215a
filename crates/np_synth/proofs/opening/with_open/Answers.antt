use Rattle.std.proofs.Common.{◌≡◌, true, replicate, set, ◌∙◌, ap}
use Rattle.np_synth.proofs.StepLaws.{opened_there}
use Rattle.np_synth.proofs.opening.with_open.Goals as goal

pub returns : goal.returns
returns c = λ interfaces slots.
    let before = c.args.posture.now.slots in
    let slot = c.args.slot in
    let full : c.in_ok-full.field-0 ≡ replicate c.args.atoms true = c.in_ok-full.ensures in
    let is : c.set.new.self ≡ set before slot (replicate c.args.atoms true) = c.set.ensures ∙ ap (λ s. set s slot c.in_ok-full.field-0) c.in_ok-opened.ensures ∙ ap (λ x. set before slot x) full in
    opened_there interfaces c.args.atoms slot before c.set.new.self c.requires slots is
