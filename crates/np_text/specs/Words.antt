-- The words of a line.
use Rattle.std.specs.Prelude.{ℕ, ◌+◌, ◌==◌, ◌||◌, ◌&&◌, Bool, true, nat_lt, length, List, [], ◌∷◌, if◌then◌else◌}
use Rattle.std.specs.List.{onto_first}

-- a space, a tab or a carriage return
abbrev pub is_blank : ℕ → Bool
is_blank b = b == 32 || b == 9 || b == 13

-- a blank byte is next, or nothing
abbrev pub ends_word : List ℕ → Bool
ends_word [] = true
ends_word (b ∷ bs) = is_blank b

-- the maximal runs of bytes that are not blank, in order
abbrev pub words_of : List ℕ → List (List ℕ)
words_of [] = []
words_of (b ∷ bs) =
    if is_blank b then words_of bs
    else if ends_word bs then (b ∷ []) ∷ words_of bs
    else onto_first b (words_of bs)

-- the byte at this place goes to the beginning of the first of the words that follow it
abbrev pub onto_first_word : ℕ → ℕ → List (ℕ × List ℕ) → List (ℕ × List ℕ)
onto_first_word at b [] = (at, b ∷ []) ∷ []
onto_first_word at b (word ∷ words) = (at, b ∷ word.1) ∷ words

-- the same words, each with the place where it begins, for bytes of which the first is at this place
abbrev pub placed_words : ℕ → List ℕ → List (ℕ × List ℕ)
placed_words at [] = []
placed_words at (b ∷ bs) =
    if is_blank b then placed_words (at + 1) bs
    else if ends_word bs then (at, b ∷ []) ∷ placed_words (at + 1) bs
    else onto_first_word at b (placed_words (at + 1) bs)

-- between each word and the next there is at least one byte
abbrev pub are_apart : List (ℕ × List ℕ) → Bool
are_apart [] = true
are_apart (word ∷ []) = true
are_apart (word ∷ next ∷ words) = nat_lt (word.0 + length word.1) next.0 && are_apart (next ∷ words)
