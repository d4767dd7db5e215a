-- Lists of other kinds than those that are read.
use Rattle.std.specs.Prelude.{Bool, false, ◌&&◌, ◌||◌, not, List}
use Rattle.std.specs.List.{find}
use Rattle.std.specs.Option.{option_map_or}
use Rattle.np_notes.specs.Kinds.{is_other_kind, is_skipped_kind}
use Rattle.np_notes.specs.ReadLines.{ReadLine, Shape, shape_of}

-- a line that declares nothing and stands at the margin
abbrev pub is_outer : Shape → Bool
is_outer shape = is_other_kind shape.kind && not shape.indented

-- a line that goes on with what a line at the margin began: it is skipped, or it declares nothing and is indented
abbrev pub goes_on : Shape → Bool
goes_on shape = is_skipped_kind shape.kind || (is_other_kind shape.kind && shape.indented)

-- a list of another kind begins at this line
abbrev pub begins_foreign_list : Shape → Bool
begins_foreign_list shape = is_outer shape && shape.heading

-- such a list is open after these lines, of which the last stands first: the last one that doesn't go on begins one
abbrev pub is_foreign_open : List ReadLine → Bool
is_foreign_open earlier =
    option_map_or (λ line. begins_foreign_list (shape_of line)) (find (λ line. not (goes_on (shape_of line))) earlier) false
