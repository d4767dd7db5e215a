use Rattle.std.proofs.lemmas.List.{map-append}
use Rattle.np_bdd.specs.Views.{node_has}
use Rattle.np_partition.proofs.partition.Partition.+of_all.Goals as goal

pub returns : goal.returns
returns t c =
    rw (c.split_at.ensures.by_index.0, map-append (λ x. node_has c.args.store.now x) c.split_at.result.0.now c.split_at.result.1.now)
    (c.in_ok-product.ensures _ _ c.in_ok-first.ensures c.in_ok-second.ensures)
