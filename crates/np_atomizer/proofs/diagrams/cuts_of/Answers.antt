use Rattle.std.proofs.Common.{◌≡◌, ◌+◌, length, ap, arith}
use Rattle.np_atomizer.proofs.ClassLaws.{sets_counted}
use Rattle.np_atomizer.proofs.diagrams.cuts_of.Goals as goal

pub after_first-requires : goal.after_first-requires
after_first-requires c =
    let counted : length c.args.partition.now.sets ≡ 1 + length c.requires.tests = sets_counted c.args.partition.now c.requires.tests c.requires.is in
    omega (arith, ap length c.sets.ensures)
