use Rattle.np_atomizer.specs.ClassAtoms.{AreListed}
use Rattle.np_atomizer.proofs.class_atoms.listed.Given as goal

abbrev pub invariant-loop-n : goal.invariant-loop-n
invariant-loop-n l = AreListed l.set l.leasts l.n l.atoms.items
