use Rattle.std.proofs.Common.{◌≡◌, ◌++◌, drop}
use Rattle.std.specs.List.{filter_map}
use Rattle.np_notes.specs.NameNotes as names
use Rattle.np_notes.proofs.missing.add_missing.Given as goal

-- the notes so far, with those of the interfaces that are left, are the notes before and those of all
abbrev pub invariant-loop-interface : goal.invariant-loop-interface
invariant-loop-interface l =
    l.notes.items ++ names.missing_notes (filter_map (names.name_at_device l.device) (drop l.interface-index l.interfaces)) l.named
    ≡ l.initial.notes.items ++ names.missing_notes (filter_map (names.name_at_device l.device) l.interfaces) l.named
