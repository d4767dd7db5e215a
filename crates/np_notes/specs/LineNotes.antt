-- The notes of lines.
use Rattle.std.specs.Prelude.{ℕ, Bool, true, false, ◌&&◌, ◌||◌, not, List, [], ◌∷◌, ◌++◌, Option, Some, None, option_map, if◌then◌else◌}
use Rattle.std.specs.List.{list_any, take_while}
use Rattle.std.specs.Option.{option_or, option_to_list}
use Rattle.np_acl_read.specs.declared.declared.Section.{Section}
use Rattle.np_acl_read.specs.declared.declared.Section.TheVariants as sections
use Rattle.np_notes.specs.declared.note.Note.{Note}
use Rattle.np_notes.specs.declared.note.Note.TheVariants as notes
use Rattle.np_notes.specs.Foreign.{goes_on, is_foreign_open, is_outer}
use Rattle.np_notes.specs.Kinds.{is_group_kind, is_interface_kind, is_other_kind}
use Rattle.np_notes.specs.ReadLines.{ReadLine, Shape, line_kind, shape_of}
use Rattle.np_notes.specs.Shape.{changes_others, changes_packets, looks_like_entry}

-- the list whose section is open
abbrev pub open_list_name : Section → Option (List ℕ)
open_list_name sections.Closed = None
open_list_name (sections.Interface name) = None
open_list_name (sections.List name kind) = Some name

-- the interface whose section is open
abbrev pub open_interface : Section → Option (List ℕ)
open_interface sections.Closed = None
open_interface (sections.Interface name) = Some name
open_interface (sections.List name kind) = None

-- the section of an interface is open
abbrev pub is_at_interface : Section → Bool
is_at_interface sections.Closed = false
is_at_interface (sections.Interface name) = true
is_at_interface (sections.List name kind) = false

-- ---- one line

-- a line that declares nothing and looks like an entry, and stands in no list of another kind, of which one may be open
abbrev pub is_stray_entry : Shape → Bool → Bool
is_stray_entry shape foreign = is_other_kind shape.kind && looks_like_entry shape.first shape.second && not (goes_on shape && foreign)

-- a line that declares nothing, is indented and isn't the one word `exit`
abbrev pub closes_list : Shape → Bool
closes_list shape = is_other_kind shape.kind && shape.indented && not shape.exit

-- the list whose section a line closes
abbrev pub closed_list_name : Shape → Section → Option (List ℕ)
closed_list_name shape section = if closes_list shape then open_list_name section else None

-- an indented line at an interface that changes packets
abbrev pub changes_at_interface : Shape → Section → Bool
changes_at_interface shape section = shape.indented && is_at_interface section && changes_packets shape.first shape.second

-- a line that declares nothing, and changes what isn't modelled
abbrev pub is_not_modelled : Shape → Section → Bool
is_not_modelled shape section =
    is_other_kind shape.kind && (changes_others shape.first shape.second shape.third || changes_at_interface shape section)

-- the interface at which a line applies a list after a line at the margin
abbrev pub strayed_from : Shape → Section → Bool → Option (List ℕ)
strayed_from shape section strayed = if is_group_kind shape.kind && strayed then open_interface section else None

-- the note of a line, by the section that is open at it, whether a list of another kind is open, and whether a line at the margin stands after the one that opened the section: the first that fits
abbrev pub note_of_shape : Shape → Section → Bool → Bool → Option Note
note_of_shape shape section foreign strayed =
    if is_stray_entry shape foreign then Some (notes.StrayEntry shape.number) else
    option_or (option_map (λ list. notes.Closes shape.number list) (closed_list_name shape section))
    (if is_not_modelled shape section then Some (notes.NotModelled shape.number) else
    option_map (λ interface. notes.StrayGroup shape.number interface) (strayed_from shape section strayed))

-- ---- the whole

-- the lines of these, of which the last stands first, since the last one that opens the section of an interface
abbrev pub since_interface : List ReadLine → List ReadLine
since_interface earlier = take_while (λ line. not (is_interface_kind (line_kind line))) earlier

-- a line at the margin that declares nothing stands after the one that opened the section
abbrev pub has_strayed : List ReadLine → Bool
has_strayed earlier = list_any (λ line. is_outer (shape_of line)) (since_interface earlier)

-- the note of a line after earlier ones, of which the last stands first
abbrev pub note_of_line : List ReadLine → ReadLine → Option Note
note_of_line earlier line = note_of_shape (shape_of line) line.section (is_foreign_open earlier) (has_strayed earlier)

-- the notes of lines after earlier ones, of which the last stands first
abbrev pub line_notes_after : List ReadLine → List ReadLine → List Note
line_notes_after earlier [] = []
line_notes_after earlier (line ∷ lines) = option_to_list (note_of_line earlier line) ++ line_notes_after (line ∷ earlier) lines

-- the notes of lines, in the order of the lines
abbrev pub line_notes : List ReadLine → List Note
line_notes lines = line_notes_after [] lines
