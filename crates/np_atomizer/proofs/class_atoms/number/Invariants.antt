use Rattle.std.proofs.Common.{◌≡◌, length}
use Rattle.np_atomizer.specs.ClassAtoms.{AreNumbered}
use Rattle.np_atomizer.proofs.class_atoms.number.Given as goal

abbrev pub invariant-loop-n : goal.invariant-loop-n
invariant-loop-n l = record {
  count : length l.numbers ≡ length l.fn.numbers;
  so_far : AreNumbered l.classes l.n l.numbers;
}
