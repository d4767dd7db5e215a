-- The notes on a configuration.
use Rattle.std.specs.Prelude.{ℕ, List, [], ◌∷◌, codes, map}
use Rattle.std.specs.Fmt.{decimal}
use Rattle.np_notes.specs.declared.note.Note.{Note}
use Rattle.np_notes.specs.declared.note.Note.TheVariants.{StrayEntry, Closes, NotModelled, StrayGroup, NoInterface, UnknownInterface, Undefined, Empty}
use Rattle.np_text.specs.Joined.{text_of_lines}

-- the words of what is noted of the line of this number
abbrev pub at_line : ℕ → List (List ℕ) → List (List ℕ)
at_line number words = codes "line" ∷ decimal number ∷ words

-- the words of what is noted
abbrev pub noted_words : Note → List (List ℕ)
noted_words (StrayEntry line) = at_line line (codes "entry" ∷ [])
noted_words (Closes line list) = at_line line (codes "closes" ∷ list ∷ [])
noted_words (NotModelled line) = at_line line (codes "not-modelled" ∷ [])
noted_words (StrayGroup line interface) = at_line line (codes "stray-group" ∷ interface ∷ [])
noted_words (NoInterface interface) = codes "no-interface" ∷ interface ∷ []
noted_words (UnknownInterface line interface) = at_line line (codes "unknown-interface" ∷ interface ∷ [])
noted_words (Undefined line list) = at_line line (codes "undefined" ∷ list ∷ [])
noted_words (Empty line list) = at_line line (codes "empty" ∷ list ∷ [])

-- the words of a note on the configuration in this file
abbrev pub note_words : List ℕ → Note → List (List ℕ)
note_words file note = codes "note" ∷ file ∷ noted_words note

-- the text of the notes on the configuration in this file: a line for each, in their order
abbrev pub notes_text : List ℕ → List Note → List ℕ
notes_text file notes = text_of_lines (map (note_words file) notes)
