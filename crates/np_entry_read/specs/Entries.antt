-- The words of an entry after `permit` or `deny`: what it tests, or the first fault in their order.
use Rattle.std.specs.Prelude.{ℕ, ◌+◌, Bool, true, false, ◌&&◌, ◌||◌, ◌==◌, nat_le, not, List, [], ◌∷◌, map, is_some, unwrap_or, Option, Some, None, option_map, Ok, Err, codes, if◌then◌else◌}
use Rattle.std.specs.Option.{ok_or}
use Rattle.std.specs.Str.{bytes_eq}
use Rattle.np_text.specs.Addresses.{address_of}
use Rattle.np_text.specs.Numbers.{is_numeral, number_of}
use Rattle.np_space.specs.declared.patterns.Ternary.{Ternary}
use Rattle.np_space.specs.declared.spans.Span.{Span}
use Rattle.np_acl.specs.declared.entries.Entry.{Entry}
use Rattle.np_acl.specs.Tables as tables
use Rattle.np_space.specs.Patterns.{any_address, host, pattern}
use Rattle.np_space.specs.Span.{span_from}
use Rattle.np_entry_read.specs.declared.fault.ConfigWhy.{ConfigWhy}
use Rattle.np_entry_read.specs.declared.fault.ConfigWhy.TheVariants as why
use Rattle.np_acl.specs.Entries.{any_entry}
use Rattle.np_acl.specs.Spans.{any_dscp, any_number}
use Rattle.np_acl.specs.declared.kinds.ListKind.{ListKind}
use Rattle.np_acl.specs.declared.kinds.ListKind.TheVariants.{Extended, Standard}
use Rattle.np_acl.specs.declared.kinds.PortNames.{PortNames}
use Rattle.np_acl.specs.declared.kinds.PortNames.TheVariants.{Tcp, Udp}
use Rattle.np_entry_read.specs.declared.options.Asked.{Asked}
use Rattle.np_entry_read.specs.declared.options.Mark.{Mark}
use Rattle.np_entry_read.specs.declared.options.Mark.TheVariants as mark
use Rattle.np_entry_read.specs.declared.options.OptionKind.{OptionKind}
use Rattle.np_entry_read.specs.declared.options.OptionKind.TheVariants as options
use Rattle.np_entry_read.specs.Spans.{all_but, above, below, flag_test, only, precedence_span}
use Rattle.np_lines.specs.Judging.{Judged, ◌>>=◌, Read}
use Rattle.np_entry_read.specs.Words.{entry_word, fault_at, is_unsupported, too_great_or}

-- ---- protocols

-- the protocols of a word
abbrev pub protocol_of : List ℕ → Judged ConfigWhy Span
protocol_of word = ok_or (tables.protocol_of word) (too_great_or word why.UnknownName)

-- this protocol alone
abbrev pub is_protocol : ℕ → Span → Bool
is_protocol n proto = proto.low == n && proto.high == n

-- whose ports may be named: TCP's, or UDP's, or none
abbrev pub port_names : Span → Option PortNames
port_names proto = if is_protocol 6 proto then Some Tcp else (if is_protocol 17 proto then Some Udp else None)

-- ---- addresses

-- an address
abbrev pub address_in : List ℕ → Judged ConfigWhy ℕ
address_in word = ok_or (address_of word) why.BadEntry

-- the pattern of an address and the wildcard after it
abbrev pub wildcard_after : ℕ → List (List ℕ) → Read ConfigWhy Ternary
wildcard_after address words = entry_word words >>= λ word. address_in word.0 >>= λ wild. Ok (pattern address wild, word.1)

-- the one address after `host`
abbrev pub host_in : List (List ℕ) → Read ConfigWhy Ternary
host_in words = entry_word words >>= λ word. address_in word.0 >>= λ address. Ok (host address, word.1)

-- the addresses that begin with this word
abbrev pub addresses_from : List ℕ → List (List ℕ) → Read ConfigWhy Ternary
addresses_from word words =
    if bytes_eq word (codes "any") then Ok (any_address, words) else
    (if bytes_eq word (codes "host") then host_in words else
    (address_in word >>= λ address. wildcard_after address words))

-- `any`, `host` and an address, or an address and a wildcard
unfoldable pub addresses_in : List (List ℕ) → Read ConfigWhy Ternary
addresses_in words = entry_word words >>= λ word. addresses_from word.0 word.1

-- ---- ports

-- a port, by its number or its name
abbrev pub port_of : PortNames → List ℕ → Judged ConfigWhy ℕ
port_of names word = ok_or (tables.port_of word names) (too_great_or word why.UnknownName)

-- the port that has to stand here
unfoldable pub port_in : PortNames → List (List ℕ) → Read ConfigWhy ℕ
port_in names words = entry_word words >>= λ word. port_of names word.0 >>= λ port. Ok (port, word.1)

-- the word is a number or the name of a port
abbrev pub is_port : PortNames → List ℕ → Bool
is_port names word = is_numeral word || is_some (tables.port_of word names)

-- one more port where there are so many
abbrev pub one_more : PortNames → ℕ → List ℕ → Judged ConfigWhy ℕ
one_more names count word = if count == 10 then Err why.BadEntry else port_of names word

-- the ports that follow others, of which there are so many; there may be ten in all
abbrev pub more_ports : PortNames → ℕ → List (List ℕ) → Read ConfigWhy (List ℕ)
more_ports names count [] = Ok ([], [])
more_ports names count (word ∷ words) =
    if is_port names word
    then (one_more names count word >>= λ port. more_ports names (count + 1) words >>= λ ports. Ok (port ∷ ports.0, ports.1))
    else Ok ([], word ∷ words)

-- one port to ten
unfoldable pub ports_in : PortNames → List (List ℕ) → Read ConfigWhy (List ℕ)
ports_in names words = port_in names words >>= λ first. more_ports names 1 first.1 >>= λ ports. Ok (first.0 ∷ ports.0, ports.1)

-- the ports from one to another
abbrev pub range_of : ℕ → ℕ → Judged ConfigWhy (List Span)
range_of low high = if nat_le low high then Ok (span_from low high ∷ []) else Err why.BadRange

-- the ports of `range`
unfoldable pub range_in : PortNames → List (List ℕ) → Read ConfigWhy (List Span)
range_in names words = port_in names words >>= λ low. port_in names low.1 >>= λ high. range_of low.0 high.0 >>= λ spans. Ok (spans, high.1)

-- the ports of `eq`
abbrev pub equal_in : PortNames → List (List ℕ) → Read ConfigWhy (List Span)
equal_in names words = ports_in names words >>= λ ports. Ok (map only ports.0, ports.1)

-- the ports of `neq`
abbrev pub unequal_in : PortNames → List (List ℕ) → Read ConfigWhy (List Span)
unequal_in names words = ports_in names words >>= λ ports. Ok (all_but ports.0, ports.1)

-- the ports of `lt`
abbrev pub less_in : PortNames → List (List ℕ) → Read ConfigWhy (List Span)
less_in names words = port_in names words >>= λ port. Ok (below port.0, port.1)

-- the ports of `gt`
abbrev pub greater_in : PortNames → List (List ℕ) → Read ConfigWhy (List Span)
greater_in names words = port_in names words >>= λ port. Ok (above port.0, port.1)

-- the ports that begin with this word, and every port where it begins none
abbrev pub ports_from : PortNames → List ℕ → List (List ℕ) → Read ConfigWhy (List Span)
ports_from names word words =
    if bytes_eq word (codes "eq") then equal_in names words else
    (if bytes_eq word (codes "neq") then unequal_in names words else
    (if bytes_eq word (codes "lt") then less_in names words else
    (if bytes_eq word (codes "gt") then greater_in names words else
    (if bytes_eq word (codes "range") then range_in names words else
    Ok (any_number ∷ [], word ∷ words)))))

-- the ports that stand here, and every port where none do
abbrev pub tests_in : PortNames → List (List ℕ) → Read ConfigWhy (List Span)
tests_in names [] = Ok (any_number ∷ [], [])
tests_in names (word ∷ words) = ports_from names word words

-- the same for the protocols that have ports
unfoldable pub port_tests : Option PortNames → List (List ℕ) → Read ConfigWhy (List Span)
port_tests None words = Ok (any_number ∷ [], words)
port_tests (Some names) words = tests_in names words

-- ---- types and codes

-- a type or a code
abbrev pub octet_of : List ℕ → Judged ConfigWhy ℕ
octet_of word = ok_or (number_of word 255) why.BadNumber

-- the code that may follow a type
unfoldable pub code_in : List (List ℕ) → Read ConfigWhy (List Span)
code_in [] = Ok (any_number ∷ [], [])
code_in (word ∷ words) =
    if is_numeral word then (octet_of word >>= λ code. Ok (only code ∷ [], words)) else Ok (any_number ∷ [], word ∷ words)

-- the code that a message's name gives
abbrev pub named_code : Option ℕ → List Span
named_code None = any_number ∷ []
named_code (Some code) = only code ∷ []

-- an option that asks for nothing
abbrev pub is_log : List ℕ → Bool
is_log word = bytes_eq word (codes "log") || bytes_eq word (codes "log-input")

-- the option that asks for code points, by its keyword
abbrev pub mark_of : List ℕ → Option Mark
mark_of word =
    if bytes_eq word (codes "dscp") then Some mark.Dscp else
    (if bytes_eq word (codes "precedence") then Some mark.Precedence else None)

-- an option of an entry for ICMP
abbrev pub is_message_option : List ℕ → Bool
is_message_option word = is_log word || is_some (mark_of word)

-- the type and the code of a message by its name; where the word is none, it has to be an option
abbrev pub message_or_option : List ℕ → Option (ℕ × Option ℕ) → List (List ℕ) → Read ConfigWhy (List Span × List Span)
message_or_option word (Some message) words = Ok ((only message.0 ∷ [], named_code message.1), words)
message_or_option word None words =
    if is_message_option word || is_unsupported word then Ok ((any_number ∷ [], any_number ∷ []), word ∷ words) else Err why.UnknownName

-- the type by its number, and the code after it
abbrev pub message_numbers : List ℕ → List (List ℕ) → Read ConfigWhy (List Span × List Span)
message_numbers word words = octet_of word >>= λ type. code_in words >>= λ code. Ok ((only type ∷ [], code.0), code.1)

-- the types and codes that stand here, and all of them where none do
unfoldable pub message_tests : List (List ℕ) → Read ConfigWhy (List Span × List Span)
message_tests [] = Ok ((any_number ∷ [], any_number ∷ []), [])
message_tests (word ∷ words) = if is_numeral word then message_numbers word words else message_or_option word (tables.icmp_of word) words

-- ---- options

-- the options that an entry may have, by its protocols
abbrev pub options_for : Span → OptionKind
options_for proto = if is_protocol 6 proto then options.Tcp else options.Extended

-- the code points that an option asks for, by the word after its keyword
abbrev pub marked : Mark → List ℕ → Option Span
marked mark.Dscp word = option_map only (tables.dscp_of word)
marked mark.Precedence word = option_map precedence_span (tables.precedence_of word)

-- the same, or the fault of the word
abbrev pub value_of : Mark → List ℕ → Judged ConfigWhy Span
value_of m word = if is_unsupported word then Err why.Unsupported else ok_or (marked m word) (too_great_or word why.UnknownName)

-- nothing is asked for yet
abbrev pub nothing_asked : Asked
nothing_asked = record { established = false; dscp = None; waiting = None }

-- `established` may stand in the options of entries for TCP alone
abbrev pub may_be_established : OptionKind → Bool
may_be_established options.Standard = false
may_be_established options.Extended = false
may_be_established options.Tcp = true

-- code points may stand in the options of extended entries
abbrev pub may_be_marked : OptionKind → Bool
may_be_marked options.Standard = false
may_be_marked options.Extended = true
may_be_marked options.Tcp = true

-- `dscp` or `precedence` where code points may be asked for and aren't yet, or the fault of the word
abbrev pub mark_in : OptionKind → Asked → List ℕ → Option Mark → Judged ConfigWhy Asked
mark_in kind asked word None = Err (fault_at word why.BadEntry)
mark_in kind asked word (Some m) =
    if may_be_marked kind && not (is_some asked.dscp) then Ok (record asked { waiting = Some m }) else Err why.BadEntry

-- what is asked for with one more option, by its keyword
abbrev pub option_of : OptionKind → Asked → List ℕ → Judged ConfigWhy Asked
option_of kind asked word =
    if is_log word then Ok asked else
    (if may_be_established kind && bytes_eq word (codes "established") then Ok (record asked { established = true }) else
    mark_in kind asked word (mark_of word))

-- what is asked for with one more word: the value that the last option waits for, or an option
abbrev pub word_of_options : OptionKind → Asked → Option Mark → List ℕ → Judged ConfigWhy Asked
word_of_options kind asked None word = option_of kind asked word
word_of_options kind asked (Some m) word = value_of m word >>= λ span. Ok (record asked { dscp = Some span; waiting = None })

-- at the end no option waits for its value
abbrev pub options_ended : Asked → Option Mark → Judged ConfigWhy Asked
options_ended asked None = Ok asked
options_ended asked (Some m) = Err why.BadEntry

-- what is asked for with these words at the end of an entry
abbrev pub options_from : OptionKind → Asked → List (List ℕ) → Judged ConfigWhy Asked
options_from kind asked [] = options_ended asked asked.waiting
options_from kind asked (word ∷ words) = word_of_options kind asked asked.waiting word >>= λ asked. options_from kind asked words

-- what the options at the end of an entry ask for
unfoldable pub options_of : OptionKind → List (List ℕ) → Judged ConfigWhy Asked
options_of kind words = options_from kind nothing_asked words

-- ---- entries

-- the ports, or the types and codes, after the destination of an entry, where these ports stand after its source
abbrev pub numbers_after : Span → List Span → List (List ℕ) → Read ConfigWhy (List Span × List Span)
numbers_after proto sources words =
    if is_protocol 1 proto then message_tests words
    else (port_tests (port_names proto) words >>= λ ports. Ok ((sources, ports.0), ports.1))

-- an extended entry: `PROTO SRC [PORT] DST [PORT] [ICMP] options`
unfoldable pub extended_entry : Bool → List (List ℕ) → Judged ConfigWhy Entry
extended_entry permit words =
    entry_word words >>= λ word. protocol_of word.0 >>= λ proto.
    addresses_in word.1 >>= λ src. port_tests (port_names proto) src.1 >>= λ from.
    addresses_in from.1 >>= λ dst. numbers_after proto from.0 dst.1 >>= λ numbers.
    options_of (options_for proto) numbers.1 >>= λ asked.
    Ok (record (any_entry permit) {
      proto = proto;
      src = src.0;
      dst = dst.0;
      a = numbers.0.0;
      b = numbers.0.1;
      est = flag_test asked.established;
      dscp = unwrap_or asked.dscp any_dscp;
    })

-- the addresses of a standard entry that begin with an address: with the wildcard after it, if there is one
abbrev pub host_or_wildcard : ℕ → List (List ℕ) → Ternary × List (List ℕ)
host_or_wildcard address [] = (host address, [])
host_or_wildcard address (word ∷ words) = by_wildcard (address_of word) where
  by_wildcard : Option ℕ → Ternary × List (List ℕ)
  by_wildcard None = (host address, word ∷ words)
  by_wildcard (Some wild) = (pattern address wild, words)

-- the source of a standard entry that begins with this word
abbrev pub source_from : List ℕ → List (List ℕ) → Read ConfigWhy Ternary
source_from word words =
    if bytes_eq word (codes "any") then Ok (any_address, words) else
    (if bytes_eq word (codes "host") then host_in words else
    (address_in word >>= λ address. Ok (host_or_wildcard address words)))

-- `any`, `host` and an address, an address, or an address and a wildcard
unfoldable pub source_in : List (List ℕ) → Read ConfigWhy Ternary
source_in words = entry_word words >>= λ word. source_from word.0 word.1

-- a standard entry: its source, and options
unfoldable pub standard_entry : Bool → List (List ℕ) → Judged ConfigWhy Entry
standard_entry permit words =
    source_in words >>= λ src. options_of options.Standard src.1 >>= λ asked. Ok (record (any_entry permit) { src = src.0 })

-- the entry of a list of this kind
abbrev pub entry_of : ListKind → Bool → List (List ℕ) → Judged ConfigWhy Entry
entry_of Extended permit words = extended_entry permit words
entry_of Standard permit words = standard_entry permit words
