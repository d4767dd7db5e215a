-- Prefixes, and the lists of prefixes that a word gives: `none`, or prefixes joined by commas.
use Rattle.std.specs.Prelude.{ℕ, ◌-◌, ◌==◌, Bool, List, [], ◌∷◌, ◌++◌, map, Option, Some, option_and_then, option_map, codes, count_ones, if◌then◌else◌}
use Rattle.std.specs.Fmt.{decimal}
use Rattle.std.specs.List.{list_all, slice_split, join_with_byte}
use Rattle.std.specs.Str.{bytes_eq}
use Rattle.np_text.specs.Addresses.{prefix_of, dotted}
use Rattle.np_space.specs.declared.patterns.Ternary.{Ternary}
use Rattle.np_space.specs.Patterns.{is_prefix, prefix_pattern}

-- each of the patterns is a prefix
abbrev pub are_prefixes : List Ternary → Bool
are_prefixes patterns = list_all is_prefix patterns

-- `b','`
abbrev pub is_comma : ℕ → Bool
is_comma b = b == 44

-- the prefix that a word writes
abbrev pub pattern_of : List ℕ → Option Ternary
pattern_of word = option_map (λ p. prefix_pattern p.0 p.1) (prefix_of word)

-- the prefixes of several words, if each is one
abbrev pub patterns_of : List (List ℕ) → Option (List Ternary)
patterns_of [] = Some []
patterns_of (word ∷ words) = option_and_then (λ p. option_map (λ ps. p ∷ ps) (patterns_of words)) (pattern_of word)

-- a list of prefixes as one word
unfoldable pub addresses_of : List ℕ → Option (List Ternary)
addresses_of word = if bytes_eq word (codes "none") then Some [] else patterns_of (slice_split is_comma word)

-- a prefix is written with its length
abbrev pub prefix_text : Ternary → List ℕ
prefix_text p = dotted p.value ++ (47 ∷ [] ++ decimal (32 - count_ones p.wild))

-- the word of a list of prefixes
unfoldable pub addresses_text : List Ternary → List ℕ
addresses_text [] = codes "none"
addresses_text (p ∷ ps) = join_with_byte 44 (map prefix_text (p ∷ ps))
