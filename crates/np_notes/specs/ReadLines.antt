-- The lines of a configuration as they are read: each with what it declares, and with the section that the lines before it leave open.
use Rattle.std.specs.Prelude.{ℕ, Bool, List, [], ◌∷◌, Option, Ok, Err}
use Rattle.std.specs.List.{filter_map}
use Rattle.np_text.specs.Lines.{numbered_lines}
use Rattle.np_text.specs.Words.{words_of}
use Rattle.np_lines.specs.Declaring.{added_if}
use Rattle.np_lines.specs.Judging.{Judged}
use Rattle.np_entry_read.specs.declared.fault.ConfigWhy.{ConfigWhy}
use Rattle.np_acl_read.specs.declared.declared.Declared.{Declared}
use Rattle.np_acl_read.specs.declared.declared.Section.{Section}
use Rattle.np_acl_read.specs.declared.statement.Statement.{Statement}
use Rattle.np_acl_read.specs.Adding.{added}
use Rattle.np_acl_read.specs.Declaring.{declared_by_config}
use Rattle.np_acl_read.specs.Judging.{line_says}
use Rattle.np_notes.specs.declared.kinds.Kind.{Kind}
use Rattle.np_notes.specs.Kinds.{kind_of}
use Rattle.np_notes.specs.Shape.{are_heading, is_exit, is_indented, word_at}

-- a line, the section that is open at it, and what it declares
pub record ReadLine : Type 0 where
  pub number : ℕ
  pub bytes : List ℕ
  pub section : Section
  pub said : Option Statement

-- a numbered line after lines that declare this
abbrev pub read_after : Declared → ℕ → List ℕ → Option Statement → ReadLine
read_after declared number bytes said = record { number = number; bytes = bytes; section = declared.section; said = said }

-- what is made of what a line declares; nothing is made of a faulty line
abbrev pub unless_faulty : Judged ConfigWhy (Option Statement) → (Option Statement → List ReadLine) → List ReadLine
unless_faulty (Ok said) make = make said
unless_faulty (Err why) make = []

-- numbered lines as they are read after lines that declare this, up to the first faulty one
abbrev pub lines_from : Declared → List (ℕ × List ℕ) → List ReadLine
lines_from declared [] = []
lines_from declared (line ∷ lines) =
    unless_faulty (line_says declared line.1) (λ said. read_after declared line.0 line.1 said ∷ lines_from (added_if added declared said) lines)

-- the lines of a configuration
abbrev pub read_lines : List ℕ → List ReadLine
read_lines text = lines_from (declared_by_config []) (numbered_lines text)

-- what lines declare, in their order
abbrev pub statements_of : List ReadLine → List Statement
statements_of lines = filter_map (λ line. line.said) lines

-- ---- what notes look at

-- a line's number and kind, whether it is indented, its first three words, whether it is the one word `exit`, and whether its words are those that begin a list of another kind
pub record Shape : Type 0 where
  pub number : ℕ
  pub kind : Kind
  pub indented : Bool
  pub first : List ℕ
  pub second : List ℕ
  pub third : List ℕ
  pub exit : Bool
  pub heading : Bool

abbrev pub line_kind : ReadLine → Kind
line_kind line = kind_of line.bytes line.said

abbrev pub line_words : ReadLine → List (List ℕ)
line_words line = words_of line.bytes

-- what a line looks like
abbrev pub shape_of : ReadLine → Shape
shape_of line = record {
  number = line.number;
  kind = line_kind line;
  indented = is_indented line.bytes;
  first = word_at (line_words line) 0;
  second = word_at (line_words line) 1;
  third = word_at (line_words line) 2;
  exit = is_exit (line_words line);
  heading = are_heading (line_words line);
}
