-- The lines of a text.
use Rattle.std.specs.Prelude.{ℕ, Bool, true, ◌==◌, List, [], ◌∷◌, ◌++◌, if◌then◌else◌}
use Rattle.std.specs.List.{onto_first, enumerate_from, flat_map}

-- what stands between the line ends, the bytes 10; a last piece that is empty is no line
abbrev pub lines_of : List ℕ → List (List ℕ)
lines_of [] = []
lines_of (b ∷ bs) = if b == 10 then [] ∷ lines_of bs else onto_first b (lines_of bs)

-- the same with their numbers, which count from 1
abbrev pub numbered_lines : List ℕ → List (ℕ × List ℕ)
numbered_lines text = enumerate_from 1 (lines_of text)

-- lines, each ended by the byte 10
abbrev pub ended_lines : List (List ℕ) → List ℕ
ended_lines lines = flat_map (λ line. line ++ 10 ∷ []) lines

-- the last line of the text is ended, or there is none
abbrev pub has_end : List ℕ → Bool
has_end [] = true
has_end (b ∷ []) = b == 10
has_end (b ∷ c ∷ bs) = has_end (c ∷ bs)
