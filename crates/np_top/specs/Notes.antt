-- What `notes` writes.
use Rattle.std.specs.Prelude.{◌≡◌, ℕ, Bool, List, [], ◌∷◌, ◌++◌, codes, if◌then◌else◌}
use Rattle.np_load.specs.Noting.{Noted}
use Rattle.np_top.specs.declared.status.Status.{Status}
use Rattle.np_top.specs.declared.status.Status.TheVariants.{Holds, Fails}

-- the last line: whether there is a note
abbrev pub last_line : Bool → List ℕ
last_line clean = (if clean then codes "clean" else codes "notes") ++ 10 ∷ []

-- the status that goes with it
abbrev pub notes_status : Bool → Status
notes_status clean = if clean then Holds else Fails

-- the text of the notes and the last line
abbrev pub IsNotesReport : Noted → List ℕ → Status → Type 0
IsNotesReport noted text status = (text ≡ noted.text ++ last_line noted.clean) × (status ≡ notes_status noted.clean)
