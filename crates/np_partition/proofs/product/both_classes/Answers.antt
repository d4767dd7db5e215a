use Rattle.np_partition.proofs.DiagramLaws.{class_at_class}
use Rattle.np_partition.proofs.product.both_classes.Goals as goal

pub returns-in-Class-Class-clause-some : goal.returns-in-Class-Class-clause-some
returns-in-Class-Class-clause-some c bits = λ i. (
  class_at_class bits c.args.first.now c.args.x c.in-Class-Class.m c.requires.x c.in-Class-Class.is-0 i,
  class_at_class bits c.args.second.now c.args.y c.in-Class-Class.n c.requires.y c.in-Class-Class.is-1 i,
)
