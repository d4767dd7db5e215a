use Rattle.std.proofs.Common.{◌≡◌, ◌++◌, drop}
use Rattle.std.specs.Prelude.{map}
use Rattle.np_net_text.specs.CanonicalText.{lines_text}
use Rattle.np_report.specs.Notes.{note_words}
use Rattle.np_report.proofs.notes.put_each_note.Given as goal

-- what is appended, with the lines that are left, is the whole
abbrev pub invariant-loop-note : goal.invariant-loop-note
invariant-loop-note l = l.text.items ++ lines_text (map (note_words l.file) (drop l.note-index l.notes)) ≡ l.initial.text.items ++ lines_text (map (note_words l.file) l.notes)
