-- The notes of names: of interfaces and lists that are there on one side alone.
use Rattle.std.specs.Prelude.{ℕ, Bool, ◌&&◌, List, [], ◌∷◌, ◌==◌, Option, Some, None, if◌then◌else◌}
use Rattle.std.specs.List.{filter_map, list_any}
use Rattle.std.specs.Map.{lookup}
use Rattle.std.specs.Str.{bytes_eq}
use Rattle.np_acl.specs.declared.entries.Entry.{Entry}
use Rattle.np_acl_read.specs.declared.statement.Statement.{Statement}
use Rattle.np_acl_read.specs.declared.statement.Statement.TheVariants as statement
use Rattle.np_acl_read.specs.Declaring.{is_same_way}
use Rattle.np_net.specs.Plan.{Plan}
use Rattle.np_net.specs.declared.filtering.Interface.{Interface}
use Rattle.np_notes.specs.declared.group_line.GroupLine.{GroupLine}
use Rattle.np_notes.specs.declared.note.Note.{Note}
use Rattle.np_notes.specs.declared.note.Note.TheVariants as notes
use Rattle.np_notes.specs.ReadLines.{ReadLine}

-- ---- interfaces

-- the name of an interface, where it is one of this device
abbrev pub name_at_device : ℕ → Interface → Option (List ℕ)
name_at_device device interface = if interface.device == device then Some interface.name else None

-- the names of a device's interfaces, in the order of the network
abbrev pub interfaces_of : Plan → ℕ → List (List ℕ)
interfaces_of net device = filter_map (name_at_device device) net.interfaces

-- the interface whose section this opens
abbrev pub interface_in : Option Statement → Option (List ℕ)
interface_in None = None
interface_in (Some (statement.Interface name)) = Some name
interface_in (Some (statement.Section list kind)) = None
interface_in (Some (statement.Remark list)) = None
interface_in (Some (statement.ListEntry entry)) = None
interface_in (Some (statement.SectionEntry entry)) = None
interface_in (Some (statement.Group interface way list)) = None
interface_in (Some statement.Other) = None

-- the interfaces whose sections lines open
abbrev pub interfaces_named : List ReadLine → List (List ℕ)
interfaces_named lines = filter_map (λ line. interface_in line.said) lines

-- the note of an interface of the device that none of these names is
abbrev pub missing_note : List (List ℕ) → List ℕ → Option Note
missing_note named name = if list_any (bytes_eq name) named then None else Some (notes.NoInterface name)

-- the notes of a device's interfaces
abbrev pub missing_notes : List (List ℕ) → List (List ℕ) → List Note
missing_notes interfaces named = filter_map (missing_note named) interfaces

-- ---- lists that are applied

-- a line of this number that applies a list
abbrev pub group_in : ℕ → Option Statement → Option GroupLine
group_in number None = None
group_in number (Some (statement.Interface name)) = None
group_in number (Some (statement.Section list kind)) = None
group_in number (Some (statement.Remark list)) = None
group_in number (Some (statement.ListEntry entry)) = None
group_in number (Some (statement.SectionEntry entry)) = None
group_in number (Some (statement.Group interface way list)) = Some (record { line = number; interface = interface; way = way; list = list })
group_in number (Some statement.Other) = None

-- the lines that apply lists
abbrev pub groups_of : List ReadLine → List GroupLine
groups_of lines = filter_map (λ line. group_in line.number line.said) lines

-- both apply a list at the same interface in the same way
abbrev pub are_at_same_place : GroupLine → GroupLine → Bool
are_at_same_place one other = bytes_eq one.interface other.interface && is_same_way one.way other.way

-- of these lines the last one for each interface and way, in their order
abbrev pub last_groups : List GroupLine → List GroupLine
last_groups [] = []
last_groups (group ∷ groups) = if list_any (are_at_same_place group) groups then last_groups groups else group ∷ last_groups groups

-- the note of a list that is applied and isn't there, or has no entries
abbrev pub list_note : GroupLine → Option (List (ℕ × Entry)) → Option Note
list_note group None = Some (notes.Undefined group.line group.list)
list_note group (Some []) = Some (notes.Empty group.line group.list)
list_note group (Some (entry ∷ entries)) = None

-- the note of a line that applies a list, for a device with these interfaces and a configuration with these lists
abbrev pub group_note : List (List ℕ) → List (List ℕ × List (ℕ × Entry)) → GroupLine → Option Note
group_note interfaces lists group =
    if list_any (bytes_eq group.interface) interfaces then list_note group (lookup (bytes_eq group.list) lists)
    else Some (notes.UnknownInterface group.line group.interface)

-- the notes of the lines that count
abbrev pub group_notes : List (List ℕ) → List (List ℕ × List (ℕ × Entry)) → List GroupLine → List Note
group_notes interfaces lists groups = filter_map (group_note interfaces lists) (last_groups groups)
