use Rattle.std.proofs.Common.{[]}
use Rattle.std.specs.Str.{bytes_eq}
use Rattle.np_net.specs.declared.filtering.Area.{Area}
use Rattle.np_net.proofs.ListLaws.{new_at, map_next}
use Rattle.np_net.proofs.net_names.names_of_areas.Goals as goal

pub add-requires : goal.add-requires
add-requires c =
    rw (c.bytes.ensures, c.loop-area.invariant)
    (new_at bytes_eq (λ (area : Area). area.name) [] c.args.areas.now c.loop-area.area-index c.area-item.result c.loop-area-test.true c.area-item.is c.requires)

pub loop-area-preserved : goal.loop-area-preserved
loop-area-preserved c =
    rw (map_next (λ (area : Area). area.name) c.args.areas.now c.loop-area.area-index c.area-item.result c.loop-area-test.true c.area-item.is, ← c.bytes.ensures, ← c.loop-area.invariant) c.in_ok-add.ensures.ok
