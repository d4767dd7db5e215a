use Rattle.std.proofs.Common.{ℕ, List, []}
use Rattle.np_net.specs.Distinct.{same_place}
use Rattle.np_net.specs.declared.filtering.Interface.{Interface}
use Rattle.np_net.proofs.ListLaws.{new_at, map_next}
use Rattle.np_net.proofs.net_names.places_of_interfaces.Goals as goal

abbrev place_of : Interface → ℕ × List ℕ
place_of interface = (interface.device, interface.name)

pub add-requires : goal.add-requires
add-requires c =
    rw (c.bytes.ensures, c.loop-interface.invariant)
    (new_at same_place place_of [] c.args.interfaces.now c.loop-interface.interface-index c.interface-item.result c.loop-interface-test.true c.interface-item.is c.requires)

pub loop-interface-preserved : goal.loop-interface-preserved
loop-interface-preserved c =
    rw (map_next place_of c.args.interfaces.now c.loop-interface.interface-index c.interface-item.result c.loop-interface-test.true c.interface-item.is, ← c.bytes.ensures, ← c.loop-interface.invariant) c.in_ok-add.ensures.ok
