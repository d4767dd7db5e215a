use Rattle.std.proofs.Common.{◌≡◌, ◌++◌, reverse, vec_len}
use Rattle.np_notes.specs.NameNotes as names
use Rattle.np_notes.specs.Places.{has_place}
use Rattle.np_notes.proofs.PlaceLaws.{last_but}
use Rattle.np_notes.proofs.group_notes.last_groups_backwards.Given as goal

-- the last ones of the lines that are left, but for the places that are seen, and then those that are kept, are the last ones of all
abbrev pub invariant-loop-group : goal.invariant-loop-group
invariant-loop-group l = last_but (has_place l.seen) l.groups.items ++ reverse l.kept.items ≡ names.last_groups l.initial.groups.items

abbrev pub decreases-loop-group : goal.decreases-loop-group
decreases-loop-group l = vec_len l.groups
