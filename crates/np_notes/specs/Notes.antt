-- The notes of a configuration: what its reading passed over and may matter.
use Rattle.std.specs.Prelude.{ℕ, List, ◌++◌}
use Rattle.np_acl_read.specs.Declaring.{lists_of}
use Rattle.np_notes.specs.declared.note.Note.{Note}
use Rattle.np_notes.specs.LineNotes.{line_notes}
use Rattle.np_notes.specs.NameNotes.{group_notes, groups_of, interfaces_named, missing_notes}
use Rattle.np_notes.specs.ReadLines.{ReadLine, read_lines, statements_of}

-- the notes of names, for a device with these interfaces
abbrev pub name_notes : List (List ℕ) → List ReadLine → List Note
name_notes interfaces lines =
    missing_notes interfaces (interfaces_named lines) ++ group_notes interfaces (lists_of (statements_of lines)) (groups_of lines)

-- the notes of lines, for a device with these interfaces: those of lines, and after them those of names
abbrev pub notes_of_lines : List (List ℕ) → List ReadLine → List Note
notes_of_lines interfaces lines = line_notes lines ++ name_notes interfaces lines

-- the notes of a configuration's text, for a device with these interfaces
abbrev pub notes_of : List (List ℕ) → List ℕ → List Note
notes_of interfaces text = notes_of_lines interfaces (read_lines text)
