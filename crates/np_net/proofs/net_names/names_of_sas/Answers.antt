use Rattle.std.proofs.Common.{[]}
use Rattle.std.specs.Str.{bytes_eq}
use Rattle.np_net.specs.declared.associations.Sa.{Sa}
use Rattle.np_net.proofs.ListLaws.{new_at, map_next}
use Rattle.np_net.proofs.net_names.names_of_sas.Goals as goal

pub add-requires : goal.add-requires
add-requires c =
    rw (c.bytes.ensures, c.loop-sa.invariant)
    (new_at bytes_eq (λ (sa : Sa). sa.name) [] c.args.sas.now c.loop-sa.sa-index c.sa-item.result c.loop-sa-test.true c.sa-item.is c.requires)

pub loop-sa-preserved : goal.loop-sa-preserved
loop-sa-preserved c =
    rw (map_next (λ (sa : Sa). sa.name) c.args.sas.now c.loop-sa.sa-index c.sa-item.result c.loop-sa-test.true c.sa-item.is, ← c.bytes.ensures, ← c.loop-sa.invariant) c.in_ok-add.ensures.ok
