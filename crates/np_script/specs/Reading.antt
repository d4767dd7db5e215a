-- What a script's text is: a script, or its first faulty line with that line's first fault.
use Rattle.std.specs.Prelude.{ℕ, ◌+◌, List, length, Option, Some, None, Ok, Err}
use Rattle.np_text.specs.Lines.{lines_of}
use Rattle.np_lines.specs.Declaring.{text_gives}
use Rattle.np_lines.specs.Judging.{Judged, ◌>>=◌}
use Rattle.np_lines.specs.declared.fault.LineFault.{LineFault}
use Rattle.np_net.specs.Naming.{NameLists, name_lists}
use Rattle.np_net.specs.Plan.{Plan}
use Rattle.np_ipsec.specs.declared.places.Motion.{Motion}
use Rattle.np_script.specs.declared.draft.Draft.{Draft}
use Rattle.np_script.specs.declared.fault.ScriptWhy.{ScriptWhy}
use Rattle.np_script.specs.declared.fault.ScriptWhy.TheVariants as why
use Rattle.np_script.specs.declared.script.Script.{Script}
use Rattle.np_script.specs.declared.statement.Start.{Start}
use Rattle.np_script.specs.Judging.{line_says}
use Rattle.np_script.specs.Saying.{draft_of}

-- a start and moves are a script; without a start there is none, and the fault is on this line
abbrev pub script_with : ℕ → Option Start → List Motion → Judged (LineFault ScriptWhy) Script
script_with line None moves = Err (record { line = line; why = why.NoStart })
script_with line (Some start) moves = Ok (record { place = start.place; plain = start.plain; moves = moves })

-- the script of what all lines say
abbrev pub script_from : ℕ → Draft → Judged (LineFault ScriptWhy) Script
script_from line draft = script_with line draft.start draft.moves

-- what a text's lines say with these names, or its first faulty line
unfoldable pub lines_say : NameLists → List ℕ → Judged (LineFault ScriptWhy) Draft
lines_say names text = text_gives (line_says names) draft_of (λ draft. draft) text

-- The script that a text says with these names, or its first fault. The first statement is the start, and each later one is a move; where
-- there is no statement, the fault is on the line after the last one.
abbrev pub script_by : NameLists → List ℕ → Judged (LineFault ScriptWhy) Script
script_by names text = lines_say names text >>= λ draft. script_from (length (lines_of text) + 1) draft

-- the same with the names of a network
abbrev pub script_of : Plan → List ℕ → Judged (LineFault ScriptWhy) Script
script_of net text = script_by (name_lists net) text
