-- What the statements of a script say together.
use Rattle.std.specs.Prelude.{List, [], ◌∷◌, ◌++◌, Option, Some, None}
use Rattle.std.specs.List.{filter_map}
use Rattle.np_lines.specs.Declaring.{last_or}
use Rattle.np_ipsec.specs.declared.places.Motion.{Motion}
use Rattle.np_script.specs.declared.draft.Draft.{Draft}
use Rattle.np_script.specs.declared.statement.Start.{Start}
use Rattle.np_script.specs.declared.statement.Statement.{Statement}
use Rattle.np_script.specs.declared.statement.Statement.TheVariants as statement

-- the start that a statement says, if it says one
abbrev pub start_in : Statement → Option Start
start_in (statement.Begin start) = Some start
start_in (statement.Move motion) = None

-- the same of a move
abbrev pub move_in : Statement → Option Motion
move_in (statement.Begin start) = None
move_in (statement.Move motion) = Some motion

-- the start that statements say, the last of several, and their moves in their order; a script's text says one
unfoldable pub draft_of : List Statement → Draft
draft_of statements = record { start = last_or None (filter_map start_in statements); moves = filter_map move_in statements }

-- the same with one more statement
abbrev pub added : Draft → Statement → Draft
added draft (statement.Begin start) = record draft { start = Some start }
added draft (statement.Move motion) = record draft { moves = draft.moves ++ motion ∷ [] }
