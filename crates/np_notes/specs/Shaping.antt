-- The shape of a line, as the walk holds it.
use Rattle.std.specs.Prelude.{Bool, false, ◌||◌, if◌then◌else◌}
use Rattle.np_notes.specs.declared.line_shape.LineShape.{LineShape}
use Rattle.np_notes.specs.Foreign.{begins_foreign_list, goes_on, is_outer}
use Rattle.np_notes.specs.Kinds.{is_interface_kind}
use Rattle.np_notes.specs.ReadLines.{Shape}

-- the shape without references
abbrev pub shape_in : LineShape → Shape
shape_in line = record {
  number = line.number;
  kind = line.kind;
  indented = line.indented;
  first = line.words.first.now;
  second = line.words.second.now;
  third = line.words.third.now;
  exit = line.exit;
  heading = line.heading;
}

-- a list of another kind is open after a line, by whether one was open before it
abbrev pub foreign_after : Shape → Bool → Bool
foreign_after shape foreign = if goes_on shape then foreign else begins_foreign_list shape

-- a line at the margin has strayed since an interface's section was opened, by whether one had before this line
abbrev pub strayed_after : Shape → Bool → Bool
strayed_after shape strayed = if is_interface_kind shape.kind then false else is_outer shape || strayed
