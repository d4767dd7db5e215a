-- What a line looks like: its indentation and its words.
use Rattle.std.specs.Prelude.{ℕ, Bool, false, ◌&&◌, ◌||◌, ◌==◌, not, List, [], ◌∷◌, slice_index_or, codes}
use Rattle.std.specs.List.{find, list_any}
use Rattle.std.specs.Option.{option_map_or}
use Rattle.std.specs.Str.{bytes_eq}
use Rattle.np_text.specs.Numbers.{is_numeral}

-- the byte is a space or a tab
abbrev pub is_space_or_tab : ℕ → Bool
is_space_or_tab b = b == 32 || b == 9

-- the first byte of a line, those of 13 at its front apart, is a space or a tab
abbrev pub is_indented : List ℕ → Bool
is_indented line = option_map_or is_space_or_tab (find (λ b. not (b == 13)) line) false

-- the word at this place, from 0 on; no bytes where there is none
abbrev pub word_at : List (List ℕ) → ℕ → List ℕ
word_at words n = slice_index_or words n []

-- ---- entries

-- the action of an entry that a list may have
abbrev pub is_action : List ℕ → Bool
is_action word = bytes_eq word (codes "permit") || bytes_eq word (codes "deny")

-- a word with which an entry begins
abbrev pub begins_entry : List ℕ → Bool
begins_entry word = is_action word || bytes_eq word (codes "dynamic") || bytes_eq word (codes "evaluate")

-- a line with these first two words looks like an entry: the first begins one, or the second where the first is all digits
abbrev pub looks_like_entry : List ℕ → List ℕ → Bool
looks_like_entry first second = begins_entry first || (is_numeral first && begins_entry second)

-- these words are the one word `exit`
abbrev pub is_exit : List (List ℕ) → Bool
is_exit [] = false
is_exit (word ∷ []) = bytes_eq word (codes "exit")
is_exit (word ∷ more ∷ words) = false

-- ---- what other lines begin with

-- these two words are those
abbrev pub are_two : List ℕ → List ℕ → List ℕ → List ℕ → Bool
are_two first second a b = bytes_eq first a && bytes_eq second b

-- the first words of a list of another kind than those that are read: `ipv6 access-list`, `mac access-list`, `arp access-list`, `ip access-list fqdn`, `ip access-list role-based`, `ip community-list`, `ip extcommunity-list`
abbrev pub names_other_list : List ℕ → List ℕ → List ℕ → Bool
names_other_list first second third =
    are_two first second (codes "ipv6") (codes "access-list")
    || are_two first second (codes "mac") (codes "access-list")
    || are_two first second (codes "arp") (codes "access-list")
    || (are_two first second (codes "ip") (codes "access-list") && (bytes_eq third (codes "fqdn") || bytes_eq third (codes "role-based")))
    || are_two first second (codes "ip") (codes "community-list")
    || are_two first second (codes "ip") (codes "extcommunity-list")

-- these words begin a list of another kind: they name one, and none of them is the action of an entry, as where such a list has its entry on one line
abbrev pub are_heading : List (List ℕ) → Bool
are_heading words = names_other_list (word_at words 0) (word_at words 1) (word_at words 2) && not (list_any is_action words)

-- the first words of a line that changes what lists or interfaces say: `ip access-list resequence`, `default interface`
abbrev pub changes_others : List ℕ → List ℕ → List ℕ → Bool
changes_others first second third =
    (are_two first second (codes "ip") (codes "access-list") && bytes_eq third (codes "resequence"))
    || are_two first second (codes "default") (codes "interface")

-- the first words of a line at an interface that changes or drops packets: `ip nat`, `ip inspect`, `crypto map`
abbrev pub changes_packets : List ℕ → List ℕ → Bool
changes_packets first second =
    are_two first second (codes "ip") (codes "nat")
    || are_two first second (codes "ip") (codes "inspect")
    || are_two first second (codes "crypto") (codes "map")
