use Rattle.std.proofs.Common.{get_or, ap}
use Rattle.np_space.specs.Header.{zeros}
use Rattle.np_synth.proofs.StepLaws.{unattainable_there, refused_same}
use Rattle.np_synth.proofs.choosing.attained.Goals as goal

pub returns-in_ok-path-in-Some-clause-unattainable :
    goal.returns-in_ok-path-in-Some-clause-unattainable
returns-in_ok-path-in-Some-clause-unattainable c = λ goal header path same.
    let net = c.args.net.now in
    let case = c.args.case.now in
    let atom = c.in-Some.atom in
    let k = c.in-Some.goal in
    let first = c.in_ok-path-in-Some.path in
    let least = get_or c.as_slice.result.now atom zeros in
    refused_same net case k least first goal header path
    (unattainable_there net case c.args.posture.now.slots c.requires.slots k atom least first.hops (rw c.in-Some.is at c.in_ok-first_broken.ensures) c.in_ok-path-in-Some.ensures (ap (λ l. get_or l atom zeros) c.as_slice.ensures)) same
