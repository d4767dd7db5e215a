-- How a line is judged against what the lines before it declare.
use Rattle.std.specs.Prelude.{ℕ, ◌+◌, Bool, true, false, ◌&&◌, ◌||◌, ◌==◌, not, nat_eq, nat_le, max, fold, List, [], ◌∷◌, map, is_some, Option, Some, None, option_and_then, option_map, Ok, Err, codes, if◌then◌else◌}
use Rattle.std.specs.Fmt.{decimal}
use Rattle.std.specs.List.{list_any}
use Rattle.std.specs.Option.{option_map_or}
use Rattle.std.specs.Str.{bytes_eq}
use Rattle.np_text.specs.Numbers.{is_numeral, number_of}
use Rattle.np_text.specs.Words.{words_of}
use Rattle.np_acl.specs.declared.entries.Entry.{Entry}
use Rattle.np_acl.specs.declared.kinds.ListKind.{ListKind}
use Rattle.np_acl.specs.declared.kinds.ListKind.TheVariants.{Extended, Standard}
use Rattle.std.specs.Map.{lookup}
use Rattle.np_acl_read.specs.declared.declared.Declared.{Declared}
use Rattle.np_acl_read.specs.declared.declared.Section.{Section}
use Rattle.np_acl_read.specs.declared.declared.Section.TheVariants as sections
use Rattle.np_entry_read.specs.declared.fault.ConfigWhy.{ConfigWhy}
use Rattle.np_entry_read.specs.declared.fault.ConfigWhy.TheVariants as why
use Rattle.np_acl_read.specs.declared.statement.NumberedEntry.{NumberedEntry}
use Rattle.np_acl_read.specs.declared.statement.Statement.{Statement}
use Rattle.np_acl_read.specs.declared.statement.Statement.TheVariants as statement
use Rattle.np_acl_read.specs.Adding.{entry_limit}
use Rattle.np_entry_read.specs.Entries.{entry_of}
use Rattle.np_lines.specs.Judging.{Judged, ◌>>=◌, ended, within}
use Rattle.np_lines.specs.Skipping.{words_say}
use Rattle.np_acl_read.specs.Words.{action_of, kind_of_number, way_of}

-- the greatest sequence number
abbrev pub number_limit : ℕ
number_limit = 2147483647

-- ---- sequence numbers

-- the numbers of a list's entries
abbrev pub numbers_in : List (List ℕ × List (ℕ × Entry)) → List ℕ → List ℕ
numbers_in lists name = option_map_or (λ entries. map (λ entry. entry.0) entries) (lookup (bytes_eq name) lists) []

-- a number that is none of those of a list
abbrev pub unused : List ℕ → Option ℕ → Judged ConfigWhy ℕ
unused numbers None = Err why.BadNumber
unused numbers (Some n) = if n == 0 then Err why.BadNumber else (if list_any (nat_eq n) numbers then Err why.DuplicateSequence else Ok n)

-- the number of a word that an entry may have, from 1 on
abbrev pub sequence_number : List ℕ → List ℕ → Judged ConfigWhy ℕ
sequence_number numbers word = unused numbers (number_of word number_limit)

-- the number of an entry without one: 10 more than the greatest of its list
abbrev pub next_number : List ℕ → Judged ConfigWhy ℕ
next_number numbers = if nat_le (fold max 0 numbers + 10) number_limit then Ok (fold max 0 numbers + 10) else Err why.BadNumber

-- ---- the lines of lists

-- an entry without a number, by the words after `permit` or `deny`; its number is judged after them
abbrev pub unnumbered : Declared → List ℕ → ListKind → Bool → List (List ℕ) → Judged ConfigWhy NumberedEntry
unnumbered declared list kind permit words =
    entry_of kind permit words >>= λ entry. next_number (numbers_in declared.lists list) >>= λ number.
    within why.TooManyEntries entry_limit declared.entries (record { list = list; number = number; entry = entry })

-- the same with a number, which is judged before them
abbrev pub numbered : Declared → List ℕ → ListKind → List ℕ → Bool → List (List ℕ) → Judged ConfigWhy NumberedEntry
numbered declared list kind word permit words =
    sequence_number (numbers_in declared.lists list) word >>= λ number. entry_of kind permit words >>= λ entry.
    within why.TooManyEntries entry_limit declared.entries (record { list = list; number = number; entry = entry })

-- the fault of a word where `permit` or `deny` has to stand
abbrev pub no_action : List ℕ → ConfigWhy
no_action word = if bytes_eq word (codes "dynamic") || bytes_eq word (codes "evaluate") then why.Unsupported else why.BadEntry

-- an entry of a list, with the number of a word or without one, by the words after `permit` or `deny`
abbrev pub list_entry : Declared → List ℕ → ListKind → Option (List ℕ) → Bool → List (List ℕ) → Judged ConfigWhy NumberedEntry
list_entry declared list kind None permit words = unnumbered declared list kind permit words
list_entry declared list kind (Some word) permit words = numbered declared list kind word permit words

-- the same by the word in the place of `permit` or `deny`
abbrev pub acted : Declared → List ℕ → ListKind → Option (List ℕ) → List ℕ → Option Bool → List (List ℕ) → Judged ConfigWhy (Option NumberedEntry)
acted declared list kind number word None words = Err (no_action word)
acted declared list kind number word (Some permit) words = list_entry declared list kind number permit words >>= λ entry. Ok (Some entry)

-- an entry of a list, or nothing for `remark`, whose words aren't judged
unfoldable pub entry_or_remark : Declared → List ℕ → ListKind → Option (List ℕ) → List (List ℕ) → Judged ConfigWhy (Option NumberedEntry)
entry_or_remark declared list kind number [] = Err why.BadEntry
entry_or_remark declared list kind number (word ∷ words) =
    if bytes_eq word (codes "remark") then Ok None else acted declared list kind number word (action_of word) words

-- ---- `access-list N ..`

-- the number of an access list, and its kind
abbrev pub list_number : List ℕ → Option (ℕ × ListKind)
list_number word = option_and_then (λ n. option_map (λ kind. (n, kind)) (kind_of_number n)) (number_of word 2699)

-- an entry of a numbered list, or a remark
abbrev pub list_statement : List ℕ → Option NumberedEntry → Statement
list_statement list None = statement.Remark list
list_statement list (Some entry) = statement.ListEntry entry

-- the line of the list of this number
abbrev pub line_of_list : Declared → Option (ℕ × ListKind) → List (List ℕ) → Judged ConfigWhy Statement
line_of_list declared None words = Ok statement.Other
line_of_list declared (Some list) words =
    entry_or_remark declared (decimal list.0) list.1 None words >>= λ entry. Ok (list_statement (decimal list.0) entry)

-- the line of a numbered list; other words are no list's line
unfoldable pub list_line : Declared → List (List ℕ) → Judged ConfigWhy Statement
list_line declared [] = Ok statement.Other
list_line declared (word ∷ words) = line_of_list declared (list_number word) words

-- ---- `ip ..`

-- the section of a list, by the words after its kind
unfoldable pub open_list : ListKind → List (List ℕ) → Judged ConfigWhy Statement
open_list kind [] = Err why.BadEntry
open_list kind (name ∷ []) = Ok (statement.Section name kind)
open_list kind (name ∷ more ∷ words) = Err why.BadEntry

-- `ip access-list ..`, by its third word and the others
unfoldable pub access_list : List (List ℕ) → Judged ConfigWhy Statement
access_list [] = Ok statement.Other
access_list (word ∷ words) =
    if bytes_eq word (codes "extended") then open_list Extended words else
    (if bytes_eq word (codes "standard") then open_list Standard words else
    Ok statement.Other)

-- `ip access-group ..` in the section of an interface, by the words after these two
unfoldable pub group_at : List ℕ → List (List ℕ) → Judged ConfigWhy Statement
group_at interface [] = Err why.BadEntry
group_at interface (list ∷ []) = Err why.BadEntry
group_at interface (list ∷ word ∷ words) = way_of word >>= λ way. ended why.Unsupported words (statement.Group interface way list)

-- the same in any section
abbrev pub group_line : Section → List (List ℕ) → Judged ConfigWhy Statement
group_line sections.Closed words = Err why.BadEntry
group_line (sections.Interface name) words = group_at name words
group_line (sections.List name kind) words = Err why.BadEntry

-- a line whose first word is `ip`
unfoldable pub ip_line : Declared → List (List ℕ) → Judged ConfigWhy Statement
ip_line declared [] = Ok statement.Other
ip_line declared (word ∷ words) =
    if bytes_eq word (codes "access-list") then access_list words else
    (if bytes_eq word (codes "access-group") then group_line declared.section words else
    Ok statement.Other)

-- ---- `no ..`

-- these words begin with the kind of a named list
abbrev pub is_kind : List (List ℕ) → Bool
is_kind [] = false
is_kind (kind ∷ more) = bytes_eq kind (codes "extended") || bytes_eq kind (codes "standard")

-- these words after `no ip` take away a list or a group
abbrev pub is_ip_negated : List (List ℕ) → Bool
is_ip_negated [] = false
is_ip_negated (word ∷ words) = bytes_eq word (codes "access-group") || (bytes_eq word (codes "access-list") && is_kind words)

-- these words after `no access-list` take away a list
abbrev pub is_list_negated : List (List ℕ) → Bool
is_list_negated [] = false
is_list_negated (word ∷ words) = is_some (list_number word)

-- a list's section is open
abbrev pub in_list : Section → Bool
in_list sections.Closed = false
in_list (sections.Interface name) = false
in_list (sections.List name kind) = true

-- this word after `no` takes away a line of the list whose section is open
abbrev pub is_line_negated : Section → List ℕ → Bool
is_line_negated section word =
    in_list section && (is_numeral word || is_some (action_of word) || bytes_eq word (codes "remark"))

-- a word after `no` and those after it take away a list or a group
abbrev pub takes_away : List ℕ → List (List ℕ) → Bool
takes_away word words = (bytes_eq word (codes "access-list") && is_list_negated words) || (bytes_eq word (codes "ip") && is_ip_negated words)

-- the words after `no` take away what a list or a group says
abbrev pub is_negated : Section → List (List ℕ) → Bool
is_negated section [] = false
is_negated section (word ∷ words) = takes_away word words || is_line_negated section word

-- a line whose first word is `no`
abbrev pub no_line : Declared → List (List ℕ) → Judged ConfigWhy Statement
no_line declared words = if is_negated declared.section words then Err why.Negated else Ok statement.Other

-- ---- lines in the section of a list

-- an entry of the section's list, or nothing for a remark
abbrev pub section_statement : Option NumberedEntry → Option Statement
section_statement None = None
section_statement (Some entry) = Some (statement.SectionEntry entry)

-- this word begins a line of the list whose section is open
abbrev pub begins_list_line : List ℕ → Bool
begins_list_line word =
    is_numeral word || is_some (action_of word) || bytes_eq word (codes "remark") || bytes_eq word (codes "dynamic") || bytes_eq word (codes "evaluate")

-- the entry of a line of this list: with a number before it or without one; nothing for a remark
unfoldable pub section_entry : Declared → List ℕ → ListKind → List (List ℕ) → Judged ConfigWhy (Option NumberedEntry)
section_entry declared list kind [] = entry_or_remark declared list kind None []
section_entry declared list kind (word ∷ words) =
    if is_numeral word then entry_or_remark declared list kind (Some word) words
    else entry_or_remark declared list kind None (word ∷ words)

-- a line of the list whose section is open, by all of its words
abbrev pub section_line : Declared → List ℕ → ListKind → List (List ℕ) → Judged ConfigWhy (Option Statement)
section_line declared list kind words = section_entry declared list kind words >>= λ entry. Ok (section_statement entry)

-- a line that begins with no keyword of its own, by its first word and all of its words
abbrev pub other_line : Declared → Section → List ℕ → List (List ℕ) → Judged ConfigWhy (Option Statement)
other_line declared sections.Closed word words = Ok (Some statement.Other)
other_line declared (sections.Interface name) word words = Ok (Some statement.Other)
other_line declared (sections.List name kind) word words =
    if begins_list_line word then section_line declared name kind words else Ok (Some statement.Other)

-- ---- the whole

-- `interface NAME ..`, by the words after its first
abbrev pub interface_line : List (List ℕ) → Judged ConfigWhy Statement
interface_line [] = Err why.BadEntry
interface_line (name ∷ words) = Ok (statement.Interface name)

-- what a line says whose first word is a keyword, by that word and the others
abbrev pub keyword_says : Declared → List ℕ → List (List ℕ) → Option (Judged ConfigWhy Statement)
keyword_says declared word words =
    if bytes_eq word (codes "interface") then Some (interface_line words) else
    (if bytes_eq word (codes "access-list") then Some (list_line declared words) else
    (if bytes_eq word (codes "ip") then Some (ip_line declared words) else
    (if bytes_eq word (codes "no") then Some (no_line declared words) else
    None)))

-- the same, or what another line says, by its first word and all of its words
abbrev pub said_or_other : Declared → Option (Judged ConfigWhy Statement) → List ℕ → List (List ℕ) → Judged ConfigWhy (Option Statement)
said_or_other declared (Some judged) word words = judged >>= λ s. Ok (Some s)
said_or_other declared None word words = other_line declared declared.section word words

-- what a line says that isn't skipped and is no other line, by its words
abbrev pub said_by : Declared → List (List ℕ) → Judged ConfigWhy (Option Statement)
said_by declared [] = Ok None
said_by declared (word ∷ words) = said_or_other declared (keyword_says declared word words) word (word ∷ words)

-- a word that begins a line of its own kind
abbrev pub is_keyword : List ℕ → Bool
is_keyword word = bytes_eq word (codes "interface") || bytes_eq word (codes "access-list") || bytes_eq word (codes "ip") || bytes_eq word (codes "no")

-- a word that begins another line in this section
abbrev pub begins_other : Section → List ℕ → Bool
begins_other section word = not (is_keyword word) && not (in_list section && begins_list_line word)

-- what a line says, by its first word and the others
abbrev pub line_with : Declared → List ℕ → List (List ℕ) → Judged ConfigWhy (Option Statement)
line_with declared word words = said_by declared (word ∷ words)

-- what a line declares after lines that declare this; a line without words and a comment, which begins with `!`, declare nothing, and leave the section as it is
unfoldable pub line_says : Declared → List ℕ → Judged ConfigWhy (Option Statement)
line_says declared line = words_say 33 (line_with declared) (words_of line)
