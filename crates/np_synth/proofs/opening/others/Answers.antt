use Rattle.std.proofs.Common.{true, replicate, ◌∙◌, ap}
use Rattle.np_atomset.specs.AtomSet.{without}
use Rattle.np_synth.proofs.StepLaws.{others_from_without}
use Rattle.np_synth.proofs.opening.others.Goals as goal

pub returns : goal.returns
returns c =
    let set = c.args.set.now in
    others_from_without set c.minus_with.new.self (c.minus_with.ensures ∙ ap (λ s. without s set) (c.in_ok-others.ensures ∙ ap (λ n. replicate n true) c.len.ensures))
