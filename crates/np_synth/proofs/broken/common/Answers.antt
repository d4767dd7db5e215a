use Rattle.std.proofs.Common.{◌≡◌, length, ◌∙◌, ap, arith}
use Rattle.np_atomset.specs.AtomSet.{met}
use Rattle.np_synth.proofs.BreakingLaws.{common_from_met}
use Rattle.np_synth.proofs.broken.common.Goals as goal

pub returns : goal.returns
returns c =
    let xs = c.args.xs.now in
    let ys = c.args.ys.now in
    let same : length xs ≡ length ys = omega arith in
    let both : c.meet_with.new.self ≡ met xs ys = c.meet_with.ensures ∙ ap (λ s. met s ys) c.in_ok-both.ensures in
    common_from_met xs ys c.meet_with.new.self same both
