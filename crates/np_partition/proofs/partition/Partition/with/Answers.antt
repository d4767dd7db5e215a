use Rattle.np_partition.proofs.ProductLaws.{all_reached, product_partition}
use Rattle.np_partition.proofs.partition.Partition.with.Goals as goal

pub paired-requires-clause-reached : goal.paired-requires-clause-reached
paired-requires-clause-reached c = rw (← c.as_slice.ensures, ← c.as_slice-2.ensures) (all_reached _ _ _ _ _ _ c.new-pairing.ensures c.in_ok-root.ensures.reached)

pub returns : goal.returns
returns c xs ys is_first is_second = product_partition _ _ _ _ c.in_ok-product.ensures xs ys is_first is_second
