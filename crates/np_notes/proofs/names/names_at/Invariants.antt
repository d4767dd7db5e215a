use Rattle.std.proofs.Common.{◌≡◌, [], drop}
use Rattle.std.specs.List.{filter_map}
use Rattle.np_notes.specs.NameNotes.{name_at_device}
use Rattle.np_notes.specs.Naming.{with_each}
use Rattle.np_notes.proofs.names.names_at.Given as goal

-- these names, with those of the interfaces that are left, are those of all
abbrev pub invariant-loop-interface : goal.invariant-loop-interface
invariant-loop-interface l =
    with_each l.names (filter_map (name_at_device l.device) (drop l.interface-index l.interfaces)) ≡ with_each [] (filter_map (name_at_device l.device) l.interfaces)
