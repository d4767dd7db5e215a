use Rattle.std.proofs.Common.{◌≡◌, take}
use Rattle.np_partition.specs.Product.{sets_at}
use Rattle.np_partition.proofs.class_sets.sets_at.Given as goal

abbrev pub invariant-loop-set : goal.invariant-loop-set
invariant-loop-set l = l.all ≡ sets_at (take l.set-index l.sets) l.numbers
