-- Single words of an entry.
use Rattle.std.specs.Prelude.{ℕ, Bool, List, [], ◌∷◌, Ok, Err, codes, if◌then◌else◌}
use Rattle.std.specs.List.{list_any}
use Rattle.std.specs.Str.{bytes_eq}
use Rattle.np_text.specs.Numbers.{is_numeral}
use Rattle.np_lines.specs.Judging.{Judged, ◌>>=◌, Read, word_in}
use Rattle.np_entry_read.specs.declared.fault.ConfigWhy.{ConfigWhy}
use Rattle.np_entry_read.specs.declared.fault.ConfigWhy.TheVariants as why

-- what the lists of a configuration could say that this program has no answer to
unfoldable pub unsupported_words : List (List ℕ)
unsupported_words =
    codes "ack" ∷ codes "addrgroup" ∷ codes "dynamic" ∷ codes "evaluate" ∷ codes "fin" ∷ codes "fragments"
    ∷ codes "match-all" ∷ codes "match-any" ∷ codes "object-group" ∷ codes "option" ∷ codes "psh"
    ∷ codes "reflect" ∷ codes "rst" ∷ codes "syn" ∷ codes "time-range" ∷ codes "tos" ∷ codes "ttl" ∷ codes "urg" ∷ []

-- the word is one of these
abbrev pub is_unsupported : List ℕ → Bool
is_unsupported word = list_any (bytes_eq word) unsupported_words

-- the fault of a word at which an entry can't go on, where its place has this fault
abbrev pub fault_at : List ℕ → ConfigWhy → ConfigWhy
fault_at word fault = if is_unsupported word then why.Unsupported else fault

-- a word that is supported
abbrev pub supported : List ℕ → Judged ConfigWhy (List ℕ)
supported word = if is_unsupported word then Err why.Unsupported else Ok word

-- the first word of those of an entry, which has to stand there, and the words after it
abbrev pub entry_word : List (List ℕ) → Read ConfigWhy (List ℕ)
entry_word words = word_in why.BadEntry words >>= λ word. supported word.0 >>= λ first. Ok (first, word.1)

-- the fault of a word that is no number in the range of its place, and no name: a number is too great
abbrev pub too_great_or : List ℕ → ConfigWhy → ConfigWhy
too_great_or word fault = if is_numeral word then why.BadNumber else fault
