-- How a line of a script is judged against the names of a network.
use Rattle.std.specs.Prelude.{ℕ, ◌==◌, List, [], ◌∷◌, take, drop, Option, Some, None, Ok, Err, codes, if◌then◌else◌}
use Rattle.std.specs.List.{list_all}
use Rattle.std.specs.Option.{ok_or}
use Rattle.std.specs.Str.{bytes_eq}
use Rattle.np_text.specs.Addresses.{address_of}
use Rattle.np_text.specs.Numbers.{number_of}
use Rattle.np_text.specs.Words.{words_of}
use Rattle.np_lines.specs.Judging.{Judged, ◌>>=◌, Read, word_in, ended}
use Rattle.np_lines.specs.Skipping.{is_text_byte}
use Rattle.np_lines.specs.Skipping as skipping
use Rattle.np_space.specs.declared.headers.Header.{Header}
use Rattle.np_net.specs.Naming.{NameLists, id_named, interface_id_named}
use Rattle.np_ipsec.specs.declared.places.Place.{Place}
use Rattle.np_ipsec.specs.declared.places.Place.TheVariants as at
use Rattle.np_ipsec.specs.declared.places.Motion.{Motion}
use Rattle.np_ipsec.specs.declared.places.Motion.TheVariants as motions
use Rattle.np_script.specs.declared.draft.Draft.{Draft}
use Rattle.np_script.specs.declared.statement.Start.{Start}
use Rattle.np_script.specs.declared.statement.Statement.{Statement}
use Rattle.np_script.specs.declared.statement.Statement.TheVariants as statement
use Rattle.np_script.specs.declared.fault.ScriptWhy.{ScriptWhy}
use Rattle.np_script.specs.declared.fault.ScriptWhy.TheVariants as why

-- ---- names

-- the number of an area
abbrev pub area_named : NameLists → List ℕ → Judged ScriptWhy ℕ
area_named names word = ok_or (id_named names.areas word) why.UnknownName

-- the number of a device
abbrev pub device_named : NameLists → List ℕ → Judged ScriptWhy ℕ
device_named names word = ok_or (id_named names.devices word) why.UnknownName

-- the number of an interface of this device
abbrev pub interface_named : NameLists → ℕ → List ℕ → Judged ScriptWhy ℕ
interface_named names device word = ok_or (interface_id_named names.interfaces device word) why.UnknownName

-- the number of a security association
abbrev pub sa_named : NameLists → List ℕ → Judged ScriptWhy ℕ
sa_named names word = ok_or (id_named names.sas word) why.UnknownName

-- `NAME`, an area
unfoldable pub area_in : NameLists → List (List ℕ) → Read ScriptWhy ℕ
area_in names words = word_in why.BadMove words >>= λ name. area_named names name.0 >>= λ area. Ok (area, name.1)

-- `SA`
unfoldable pub sa_in : NameLists → List (List ℕ) → Read ScriptWhy ℕ
sa_in names words = word_in why.BadMove words >>= λ name. sa_named names name.0 >>= λ sa. Ok (sa, name.1)

-- `DEV IF`
unfoldable pub interface_in : NameLists → List (List ℕ) → Read ScriptWhy ℕ
interface_in names words =
    word_in why.BadMove words >>= λ device. device_named names device.0 >>= λ d.
    word_in why.BadMove device.1 >>= λ name. interface_named names d name.0 >>= λ i. Ok (i, name.1)

-- ---- places

-- a place, by its keyword and the words after it
abbrev pub place_by : NameLists → List ℕ → List (List ℕ) → Read ScriptWhy Place
place_by names keyword words =
    if bytes_eq keyword (codes "area") then (area_in names words >>= λ area. Ok (at.AtArea area.0, area.1)) else
    (if bytes_eq keyword (codes "in") then (interface_in names words >>= λ i. Ok (at.AtIn i.0, i.1)) else
    (if bytes_eq keyword (codes "out") then (interface_in names words >>= λ i. Ok (at.AtOut i.0, i.1)) else
    Err why.BadMove))

-- `area NAME`, `in DEV IF` or `out DEV IF`
unfoldable pub place_in : NameLists → List (List ℕ) → Read ScriptWhy Place
place_in names words = word_in why.BadMove words >>= λ keyword. place_by names keyword.0 keyword.1

-- ---- headers

-- a number of at most this
abbrev pub number_to : ℕ → List ℕ → Judged ScriptWhy ℕ
number_to max word = ok_or (number_of word max) why.BadNumber

-- the same as the next word
abbrev pub number_in : ℕ → List (List ℕ) → Read ScriptWhy ℕ
number_in max words = word_in why.BadMove words >>= λ word. number_to max word.0 >>= λ n. Ok (n, word.1)

-- an address
abbrev pub address_in : List (List ℕ) → Read ScriptWhy ℕ
address_in words = word_in why.BadMove words >>= λ word. ok_or (address_of word.0) why.BadNumber >>= λ address. Ok (address, word.1)

-- `dscp=N`, with N at most 63
abbrev pub code_point_of : List ℕ → Judged ScriptWhy ℕ
code_point_of word = if bytes_eq (take 5 word) (codes "dscp=") then number_to 63 (drop 5 word) else Err why.BadMove

-- the code point at a statement's end; it is 0 where it isn't given
abbrev pub code_point_or_none : List (List ℕ) → Judged ScriptWhy ℕ
code_point_or_none [] = Ok 0
code_point_or_none (word ∷ more) = code_point_of word >>= λ dscp. ended why.BadMove more dscp

-- a header: the addresses of its source and destination, the protocol, `a`, `b`, `est` as 0 or 1, and the code point, if it is given
unfoldable pub header_says : List (List ℕ) → Judged ScriptWhy Header
header_says words =
    address_in words >>= λ src. address_in src.1 >>= λ dst. number_in 255 dst.1 >>= λ proto.
    number_in 65535 proto.1 >>= λ a. number_in 65535 a.1 >>= λ b. number_in 1 b.1 >>= λ est. code_point_or_none est.1 >>= λ dscp.
    Ok (record { src = src.0; dst = dst.0; proto = proto.0; a = a.0; b = b.0; est = est.0 == 1; dscp = dscp })

-- ---- statements, each without its first word

-- `start PLACE HEADER`
unfoldable pub start_says : NameLists → List (List ℕ) → Judged ScriptWhy Start
start_says names words = place_in names words >>= λ place. header_says place.1 >>= λ plain. Ok (record { place = place.0; plain = plain })

-- `enter DEV IF`
unfoldable pub enter_says : NameLists → List (List ℕ) → Judged ScriptWhy Motion
enter_says names words = interface_in names words >>= λ i. ended why.BadMove i.1 (motions.Enter i.0)

-- `cross DEV IF`
unfoldable pub cross_says : NameLists → List (List ℕ) → Judged ScriptWhy Motion
cross_says names words = interface_in names words >>= λ i. ended why.BadMove i.1 (motions.Cross i.0)

-- `push SA`
unfoldable pub push_says : NameLists → List (List ℕ) → Judged ScriptWhy Motion
push_says names words = sa_in names words >>= λ sa. ended why.BadMove sa.1 (motions.Push sa.0)

-- ---- lines

-- a move, by its first word and the others; no other word begins one
abbrev pub move_says : NameLists → List ℕ → List (List ℕ) → Judged ScriptWhy Motion
move_says names word words =
    if bytes_eq word (codes "enter") then enter_says names words else
    (if bytes_eq word (codes "pop") then ended why.BadMove words motions.Pop else
    (if bytes_eq word (codes "cross") then cross_says names words else
    (if bytes_eq word (codes "push") then push_says names words else
    (if bytes_eq word (codes "leave") then ended why.BadMove words motions.Leave else
    Err why.BadMove))))

-- the first statement is the start
abbrev pub first_says : NameLists → List ℕ → List (List ℕ) → Judged ScriptWhy Statement
first_says names word words =
    if bytes_eq word (codes "start") then (start_says names words >>= λ start. Ok (statement.Begin start)) else Err why.NoStart

-- each later one is a move
abbrev pub later_says : NameLists → List ℕ → List (List ℕ) → Judged ScriptWhy Statement
later_says names word words = move_says names word words >>= λ motion. Ok (statement.Move motion)

-- a statement, by its first word and the others, after the start or before there is one
abbrev pub statement_says : NameLists → Option Start → List ℕ → List (List ℕ) → Judged ScriptWhy Statement
statement_says names None word words = first_says names word words
statement_says names (Some start) word words = later_says names word words

-- a line without words and a comment, which begins with `#`, say nothing; each other line is one statement
abbrev pub words_say : NameLists → Option Start → List (List ℕ) → Judged ScriptWhy (Option Statement)
words_say names start words = skipping.words_say 35 (λ word others. statement_says names start word others >>= λ s. Ok (Some s)) words

-- what a line says after lines that say this; the bytes of a comment are judged too
unfoldable pub line_says : NameLists → Draft → List ℕ → Judged ScriptWhy (Option Statement)
line_says names draft line = if list_all is_text_byte line then words_say names draft.start (words_of line) else Err why.NotText
