-- Interfaces and ways that are gathered.
use Rattle.std.specs.Prelude.{ℕ, Bool, List}
use Rattle.std.specs.List.{list_any}
use Rattle.std.specs.Str.{bytes_eq}
use Rattle.np_acl.specs.declared.kinds.Way.{Way}
use Rattle.np_acl.specs.declared.kinds.Way.TheVariants.{Inward, Outward}
use Rattle.np_acl_read.specs.Declaring.{with_name}
use Rattle.np_notes.specs.declared.group_line.GroupLine.{GroupLine}
use Rattle.np_notes.specs.declared.group_notes.Places.{Places}

-- the interfaces that are there in this way
abbrev pub names_in : Places → Way → List (List ℕ)
names_in places Inward = places.inward
names_in places Outward = places.outward

-- the place of this line is there
abbrev pub has_place : Places → GroupLine → Bool
has_place places group = list_any (bytes_eq group.interface) (names_in places group.way)

-- the places with one more in this way
abbrev pub with_name_in : Places → Way → List ℕ → Places
with_name_in places Inward name = record places { inward = with_name places.inward name }
with_name_in places Outward name = record places { outward = with_name places.outward name }

-- the places with that of this line
abbrev pub with_place : Places → GroupLine → Places
with_place places group = with_name_in places group.way group.interface
