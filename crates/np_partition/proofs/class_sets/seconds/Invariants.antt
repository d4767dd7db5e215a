use Rattle.std.proofs.Common.{◌≡◌, take}
use Rattle.np_partition.specs.Product.{seconds}
use Rattle.np_partition.proofs.class_sets.seconds.Given as goal

abbrev pub invariant-loop-pair : goal.invariant-loop-pair
invariant-loop-pair l = l.numbers.items ≡ seconds (take l.pair-index l.pairs)
