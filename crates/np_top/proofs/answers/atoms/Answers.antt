use Rattle.np_atoms.proofs.AtomLaws.{sets_counted}
use Rattle.np_cut.specs.FilterCuts.{filter_tests}
use Rattle.np_top.proofs.answers.atoms.Goals as goal

pub atoms_report-requires : goal.atoms_report-requires
atoms_report-requires g c = record { sets = (sets_counted (filter_tests c.in_ok-applied.applied.lists c.args.inputs.net.goals) c.in_ok-atoms.atoms c.in_ok-atoms.ensures.atoms).1 }
