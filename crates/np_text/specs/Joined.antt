-- Texts that are made of words: each line's words joined by one space.
use Rattle.std.specs.Prelude.{◌≡◌, ℕ, ◌==◌, ◌&&◌, not, Bool, true, false, nat_lt, List, [], ◌∷◌, ◌++◌, length, map, if◌then◌else◌}
use Rattle.std.specs.List.{AllByRecursion, flat_map, list_all, join_with_byte}
use Rattle.np_text.specs.Words.{is_blank}

-- neither blank nor a line end
abbrev pub is_word_byte : ℕ → Bool
is_word_byte b = not (is_blank b) && not (b == 10)

-- such bytes, at least one
abbrev pub is_word : List ℕ → Bool
is_word word = nat_lt 0 (length word) && list_all is_word_byte word

-- each of these is a word
abbrev pub AreWords : List (List ℕ) → Type 0
AreWords words = AllByRecursion (λ word. is_word word ≡ true) words

-- lines each of whose words is a word
abbrev pub AreLinesOfWords : List (Bool × List (List ℕ)) → Type 0
AreLinesOfWords lines = AllByRecursion (λ line. AreWords line.1) lines

-- words joined by one space; where indented is true, one space stands before them
abbrev pub joined_line : Bool → List (List ℕ) → List ℕ
joined_line indented words = if indented then 32 ∷ join_with_byte 32 words else join_with_byte 32 words

-- such lines, each ended by the byte 10
abbrev pub joined_text : List (Bool × List (List ℕ)) → List ℕ
joined_text lines = flat_map (λ line. joined_line line.0 line.1 ++ 10 ∷ []) lines

-- lines of words as a text: the words of each joined by one space, and each ended by the byte 10
abbrev pub text_of_lines : List (List (List ℕ)) → List ℕ
text_of_lines lines = joined_text (map (λ words. (false, words)) lines)
