use Rattle.std.proofs.Common.{◌≡◌, ◌++◌, drop}
use Rattle.std.specs.List.{filter_map}
use Rattle.np_notes.specs.NameNotes as names
use Rattle.np_notes.proofs.group_notes.add_group_notes.Given as goal

-- the notes so far, with those of the lines that are left, are the notes before and those of all
abbrev pub invariant-loop-group : goal.invariant-loop-group
invariant-loop-group l =
    l.notes.items ++ filter_map (names.group_note l.known l.declared.lists) (drop l.group-index l.groups)
    ≡ l.initial.notes.items ++ filter_map (names.group_note l.known l.declared.lists) l.groups
