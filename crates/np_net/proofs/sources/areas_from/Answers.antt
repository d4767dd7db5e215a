use Rattle.std.proofs.Common.{[], take}
use Rattle.std.specs.Str.{bytes_eq}
use Rattle.np_net.specs.declared.filtering.Area.{Area}
use Rattle.np_net.proofs.ListLaws.{new_at, lookup_none}
use Rattle.np_net.proofs.sources.areas_from.Goals as goal

pub add-requires-clause-new : goal.add-requires-clause-new
add-requires-clause-new c =
    rw (c.in_ok-copy.ensures, c.loop-area.invariant)
    (lookup_none (bytes_eq c.area-item.result.name) (λ (area : Area). area.name) (λ (area : Area). area.sources) (take c.loop-area.area-index c.args.areas.now)
    (new_at bytes_eq (λ (area : Area). area.name) [] c.args.areas.now c.loop-area.area-index c.area-item.result c.loop-area-test.true c.area-item.is c.requires.distinct))
