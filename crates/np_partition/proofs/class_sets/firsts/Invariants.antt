use Rattle.std.proofs.Common.{◌≡◌, take}
use Rattle.np_partition.specs.Product.{firsts}
use Rattle.np_partition.proofs.class_sets.firsts.Given as goal

abbrev pub invariant-loop-pair : goal.invariant-loop-pair
invariant-loop-pair l = l.numbers.items ≡ firsts (take l.pair-index l.pairs)
