-- What contracts see of the items of the iterators.
use Rattle.std.specs.Prelude.{ℕ, List}
use Rattle.np_text.specs.declared.cutting.Line.{Line}
use Rattle.np_text.specs.declared.cutting.Word.{Word}

-- a line's number and its bytes
abbrev pub line_view : Line → ℕ × List ℕ
line_view line = (line.number, line.bytes.now)

-- a word's place and its bytes
abbrev pub word_view : Word → ℕ × List ℕ
word_view word = (word.at, word.bytes.now)
