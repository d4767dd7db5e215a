-- A number or a span of numbers as a word: `N`, or `N-M`.
use Rattle.std.specs.Prelude.{ℕ, ◌==◌, Bool, nat_le, nat_lt, List, [], ◌∷◌, ◌++◌, length, Option, Some, None, option_and_then, option_map, if◌then◌else◌}
use Rattle.std.specs.Fmt.{decimal}
use Rattle.std.specs.List.{position_or_len, before_first, after_first}
use Rattle.np_text.specs.Numbers.{number_of}

-- `b'-'`
abbrev pub is_hyphen : ℕ → Bool
is_hyphen b = b == 45

-- the two numbers, if the first is at most the second
abbrev pub ordered : ℕ → ℕ → Option (ℕ × ℕ)
ordered low high = if nat_le low high then Some (low, high) else None

-- the first and the last number of a word, each at most `max`: one number, or two with a hyphen between them
unfoldable pub bounds_of : ℕ → List ℕ → Option (ℕ × ℕ)
bounds_of max word =
    if nat_lt (position_or_len is_hyphen word) (length word)
    then option_and_then (λ low. option_and_then (λ high. ordered low high) (number_of (after_first is_hyphen word) max)) (number_of (before_first is_hyphen word) max)
    else option_map (λ only. (only, only)) (number_of word max)

-- the word of the numbers from low to high
unfoldable pub bounds_text : ℕ → ℕ → List ℕ
bounds_text low high = if low == high then decimal low else decimal low ++ (45 ∷ [] ++ decimal high)
