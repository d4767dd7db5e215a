-- How a line is judged against what the lines before it declare.
use Rattle.std.specs.Prelude.{ℕ, ◌+◌, ◌*◌, Bool, true, false, ◌==◌, nat_eq, nat_lt, List, [], ◌∷◌, length, Option, Some, None, Result, Ok, Err, codes, if◌then◌else◌}
use Rattle.std.specs.List.{list_all, list_any}
use Rattle.std.specs.Option.{ok_or}
use Rattle.std.specs.Str.{bytes_eq}
use Rattle.np_text.specs.Numbers.{number_of}
use Rattle.np_text.specs.Words.{words_of}
use Rattle.np_lines.specs.Judging.{Judged, Read, ◌>>=◌, word_in, ended, within}
use Rattle.np_lines.specs.Skipping.{is_text_byte}
use Rattle.np_lines.specs.Skipping as skipping
use Rattle.np_space.specs.declared.patterns.Ternary.{Ternary}
use Rattle.np_pred.specs.declared.predicate.Pred.{Pred}
use Rattle.np_pred.specs.declared.pred_error.PredFault.{PredFault}
use Rattle.np_pred.specs.Patterns.{addresses_of}
use Rattle.np_pred.specs.Reading.{pred_of}
use Rattle.np_net.specs.Distinct.{same_place}
use Rattle.np_net.specs.Faults.{pred_why}
use Rattle.np_net.specs.Naming.{id_named, interface_id_named}
use Rattle.np_net.specs.Sources.{source_list}
use Rattle.np_net.specs.declared.pred_faults.PredWhy.{PredWhy}
use Rattle.np_net.specs.declared.pred_faults.PredWhy.TheVariants as unread
use Rattle.np_net.specs.Limits.{declaration_limit, interface_limit, rule_limit, depth_limit}
use Rattle.np_net.specs.Names.{is_name, is_interface_name}
use Rattle.np_net.specs.Network.{sa_at}
use Rattle.np_net.specs.Path.{device_of}
use Rattle.np_net.specs.Plan.{area_names, device_names, interface_names, sa_names}
use Rattle.np_net.specs.declared.associations.Kind.{Kind}
use Rattle.np_net.specs.declared.associations.Kind.TheVariants as kind
use Rattle.np_net.specs.declared.associations.Match.{Match}
use Rattle.np_net.specs.declared.associations.Match.TheVariants as top
use Rattle.np_net.specs.declared.associations.MarkTest.{MarkTest}
use Rattle.np_net.specs.declared.associations.MarkTest.TheVariants as mark
use Rattle.np_net.specs.declared.associations.InAction.{InAction}
use Rattle.np_net.specs.declared.associations.InAction.TheVariants as inward
use Rattle.np_net.specs.declared.associations.OutAction.{OutAction}
use Rattle.np_net.specs.declared.associations.OutAction.TheVariants as outward
use Rattle.np_net.specs.declared.associations.IpGoal.{IpGoal}
use Rattle.np_net.specs.declared.associations.IpGoal.TheVariants as ipgoal
use Rattle.np_net_read.specs.declared.declared.Declared.{Declared}
use Rattle.np_net_read.specs.declared.statement.Statement.{Statement}
use Rattle.np_net_read.specs.declared.statement.Statement.TheVariants as statement
use Rattle.np_net_read.specs.declared.fault.NetWhy.{NetWhy}
use Rattle.np_net_read.specs.declared.fault.NetWhy.TheVariants as why
use Rattle.np_net_read.specs.Tables.{rule_total, table_at}

-- ---- single words

-- a name that is new among these
abbrev pub new_name : List (List ℕ) → List ℕ → Judged NetWhy (List ℕ)
new_name names word = if is_name word then (if list_any (bytes_eq word) names then Err why.Duplicate else Ok word) else Err why.BadName

-- the name of an interface that is new among these, each by its device and its name
abbrev pub new_interface_name : List (ℕ × List ℕ) → ℕ → List ℕ → Judged NetWhy (List ℕ)
new_interface_name places device word =
    if is_interface_name word then (if list_any (same_place (device, word)) places then Err why.Duplicate else Ok word) else Err why.BadName

-- the number of a name among these
abbrev pub named : List (List ℕ) → List ℕ → Judged NetWhy ℕ
named names word = ok_or (id_named names word) why.UnknownName

-- the number of an interface among these, by its device and its name
abbrev pub interface_named : List (ℕ × List ℕ) → ℕ → List ℕ → Judged NetWhy ℕ
interface_named places device word = ok_or (interface_id_named places device word) why.UnknownName

-- the prefixes of an area
abbrev pub sources_of : List ℕ → Judged NetWhy (List Ternary)
sources_of word = ok_or (addresses_of word) why.BadNumber

-- a depth is at least 1
abbrev pub positive : Option ℕ → Judged NetWhy ℕ
positive None = Err why.BadNumber
positive (Some n) = if nat_lt 0 n then Ok n else Err why.BadNumber

-- a depth of 1 to 16
abbrev pub depth_of : List ℕ → Judged NetWhy ℕ
depth_of word = positive (number_of word depth_limit)

-- the slot of an interface in a way
abbrev pub slot_of : ℕ → List ℕ → Judged NetWhy ℕ
slot_of interface word =
    if bytes_eq word (codes "in") then Ok (2 * interface) else
    (if bytes_eq word (codes "out") then Ok (2 * interface + 1) else Err why.BadShape)

-- a slot that is freed by none before it
abbrev pub new_slot : List ℕ → ℕ → Judged NetWhy ℕ
new_slot freed slot = if list_any (nat_eq slot) freed then Err why.Duplicate else Ok slot

-- an area that isn't this one
abbrev pub other_than : ℕ → ℕ → Judged NetWhy ℕ
other_than first second = if first == second then Err why.SameArea else Ok second

-- whether the packets of a predicate are the only ones that may pass
abbrev pub only_of : List ℕ → Judged NetWhy Bool
only_of word =
    if bytes_eq word (codes "never") then Ok false else
    (if bytes_eq word (codes "only") then Ok true else Err why.BadShape)

-- the kind of an association
abbrev pub kind_of : List ℕ → Judged NetWhy Kind
kind_of word =
    if bytes_eq word (codes "esp") then Ok kind.Esp else
    (if bytes_eq word (codes "esp-enc") then Ok kind.EspEnc else
    (if bytes_eq word (codes "esp-null") then Ok kind.EspNull else
    (if bytes_eq word (codes "ah") then Ok kind.Ah else Err why.BadShape)))

-- the action of an inward rule
abbrev pub in_action_of : List ℕ → Judged NetWhy InAction
in_action_of word =
    if bytes_eq word (codes "bypass") then Ok inward.Bypass else
    (if bytes_eq word (codes "discard") then Ok inward.Discard else Err why.BadShape)

-- an association whose header the device of this interface removes
abbrev pub ending_at : Declared → ℕ → ℕ → Judged NetWhy ℕ
ending_at declared interface sa = if (sa_at declared.sas sa).to == device_of declared.interfaces interface then Ok sa else Err why.WrongEnd

-- an association whose header the device of this interface puts around packets
abbrev pub beginning_at : Declared → ℕ → ℕ → Judged NetWhy ℕ
beginning_at declared interface sa = if (sa_at declared.sas sa).from == device_of declared.interfaces interface then Ok sa else Err why.WrongEnd

-- an association that this interface has no pop rule of
abbrev pub new_pop : Declared → ℕ → ℕ → Judged NetWhy ℕ
new_pop declared interface sa = if list_any (nat_eq sa) (table_at declared.tables interface).pops then Err why.Duplicate else Ok sa

-- ---- what the next words name

-- the area that the next word names
abbrev pub area_next : Declared → List (List ℕ) → Read NetWhy ℕ
area_next declared words = word_in why.BadShape words >>= λ area. named (area_names declared.areas) area.0 >>= λ a. Ok (a, area.1)

-- the device that the next word names
abbrev pub device_next : Declared → List (List ℕ) → Read NetWhy ℕ
device_next declared words = word_in why.BadShape words >>= λ device. named (device_names declared.devices) device.0 >>= λ d. Ok (d, device.1)

-- the interface that the next two words name, by its device and its name
unfoldable pub interface_next : Declared → List (List ℕ) → Read NetWhy ℕ
interface_next declared words =
    device_next declared words >>= λ device. word_in why.BadShape device.1 >>= λ name.
    interface_named (interface_names declared.interfaces) device.0 name.0 >>= λ i. Ok (i, name.1)

-- the association that the next word names
abbrev pub sa_next : Declared → List (List ℕ) → Read NetWhy ℕ
sa_next declared words = word_in why.BadShape words >>= λ sa. named (sa_names declared.sas) sa.0 >>= λ s. Ok (s, sa.1)

-- the same, where the device of this interface removes its header
abbrev pub ending_next : Declared → ℕ → List (List ℕ) → Read NetWhy ℕ
ending_next declared interface words = sa_next declared words >>= λ sa. ending_at declared interface sa.0 >>= λ s. Ok (s, sa.1)

-- the same, where the device of this interface puts its header around packets
abbrev pub beginning_next : Declared → ℕ → List (List ℕ) → Read NetWhy ℕ
beginning_next declared interface words = sa_next declared words >>= λ sa. beginning_at declared interface sa.0 >>= λ s. Ok (s, sa.1)

-- `unmarked`, `popped SA` or `anymark`, by the first word and the others
abbrev pub mark_from : Declared → ℕ → List ℕ → List (List ℕ) → Read NetWhy MarkTest
mark_from declared interface word words =
    if bytes_eq word (codes "unmarked") then Ok (mark.Unmarked, words) else
    (if bytes_eq word (codes "anymark") then Ok (mark.AnyMark, words) else
    (if bytes_eq word (codes "popped") then (ending_next declared interface words >>= λ sa. Ok (mark.Popped sa.0, sa.1)) else Err why.BadShape))

-- what an inward rule at this interface asks of the association that was removed last
abbrev pub mark_next : Declared → ℕ → List (List ℕ) → Read NetWhy MarkTest
mark_next declared interface words = word_in why.BadShape words >>= λ word. mark_from declared interface word.0 word.1

-- `bypass`, `discard` or `protect SA`, by the first word and the others
abbrev pub out_action_from : Declared → ℕ → List ℕ → List (List ℕ) → Read NetWhy OutAction
out_action_from declared interface word words =
    if bytes_eq word (codes "bypass") then Ok (outward.Bypass, words) else
    (if bytes_eq word (codes "discard") then Ok (outward.Discard, words) else
    (if bytes_eq word (codes "protect") then (beginning_next declared interface words >>= λ sa. Ok (outward.Protect sa.0, sa.1)) else Err why.BadShape))

-- the action of an outward rule at this interface
abbrev pub out_action_next : Declared → ℕ → List (List ℕ) → Read NetWhy OutAction
out_action_next declared interface words = word_in why.BadShape words >>= λ word. out_action_from declared interface word.0 word.1

-- ---- the words at the end of a statement

-- `trusted`, or nothing
abbrev pub trusted_of : List (List ℕ) → Judged NetWhy Bool
trusted_of [] = Ok false
trusted_of (word ∷ []) = if bytes_eq word (codes "trusted") then Ok true else Err why.BadShape
trusted_of (word ∷ more ∷ words) = Err why.BadShape

-- `config FILE`, or nothing, and then `trusted`, or nothing
abbrev pub options_of : List (List ℕ) → Judged NetWhy (Option (List ℕ) × Bool)
options_of [] = Ok (None, false)
options_of (word ∷ []) = if bytes_eq word (codes "trusted") then Ok (None, true) else Err why.BadShape
options_of (word ∷ file ∷ words) =
    if bytes_eq word (codes "config") then (trusted_of words >>= λ trusted. Ok (Some file, trusted)) else Err why.BadShape

-- the cause of a line whose predicate has this one
abbrev pub cause_of : PredWhy → NetWhy
cause_of unread.BadPred = why.BadPred
cause_of unread.TooDeep = why.TooDeep
cause_of unread.UnknownName = why.UnknownName

-- what reading a predicate gives, as it is judged
abbrev pub pred_or_why : Result Pred PredFault → Judged NetWhy Pred
pred_or_why (Ok pred) = Ok pred
pred_or_why (Err fault) = Err (cause_of (pred_why fault))

-- the predicate that the words are
abbrev pub pred_in : Declared → List (List ℕ) → Judged NetWhy Pred
pred_in declared words = pred_or_why (pred_of (source_list declared.areas) words)

-- the association that a header has to be of
abbrev pub under_in : Declared → List (List ℕ) → Judged NetWhy Match
under_in declared words = sa_next declared words >>= λ sa. ended why.BadShape sa.1 (top.Under sa.0)

-- `plain PRED`, `under SA` or `every`, by the first word and the others
abbrev pub match_from : Declared → List ℕ → List (List ℕ) → Judged NetWhy Match
match_from declared word words =
    if bytes_eq word (codes "plain") then (pred_in declared words >>= λ p. Ok (top.Plain p)) else
    (if bytes_eq word (codes "under") then under_in declared words else
    (if bytes_eq word (codes "every") then ended why.BadShape words top.Every else Err why.BadShape))

-- what a rule asks of a packet's outermost header
abbrev pub match_in : Declared → List (List ℕ) → Judged NetWhy Match
match_in declared words = word_in why.BadShape words >>= λ word. match_from declared word.0 word.1

-- ---- statements, each without its first word

-- these words, where no depth is declared
abbrev pub undeclared : Option ℕ → List (List ℕ) → Judged NetWhy (List (List ℕ))
undeclared None words = Ok words
undeclared (Some depth) words = Err why.Duplicate

-- `depth D`
unfoldable pub depth_says : Declared → List (List ℕ) → Judged NetWhy Statement
depth_says declared words =
    undeclared declared.depth words >>= λ words. word_in why.BadShape words >>= λ depth. depth_of depth.0 >>= λ d. ended why.BadShape depth.1 (statement.Depth d)

-- `area NAME ADDRS [trusted]`
unfoldable pub area_says : Declared → List (List ℕ) → Judged NetWhy Statement
area_says declared words =
    word_in why.BadShape words >>= λ name. new_name (area_names declared.areas) name.0 >>= λ n.
    word_in why.BadShape name.1 >>= λ addresses. sources_of addresses.0 >>= λ s.
    trusted_of addresses.1 >>= λ t.
    within why.TooMany declaration_limit (length declared.areas) (statement.Area (record { name = n; sources = s; trusted = t }))

-- `device NAME [config FILE] [trusted]`
unfoldable pub device_says : Declared → List (List ℕ) → Judged NetWhy Statement
device_says declared words =
    word_in why.BadShape words >>= λ name. new_name (device_names declared.devices) name.0 >>= λ n.
    options_of name.1 >>= λ options.
    within why.TooMany declaration_limit (length declared.devices) (statement.Device (record { name = n; config = options.0; trusted = options.1 }))

-- `interface DEV IF AREA`
unfoldable pub interface_says : Declared → List (List ℕ) → Judged NetWhy Statement
interface_says declared words =
    word_in why.BadShape words >>= λ device. named (device_names declared.devices) device.0 >>= λ d.
    word_in why.BadShape device.1 >>= λ name. new_interface_name (interface_names declared.interfaces) d name.0 >>= λ n.
    word_in why.BadShape name.1 >>= λ area. named (area_names declared.areas) area.0 >>= λ a.
    ended why.BadShape area.1 a >>= λ a.
    within why.TooMany interface_limit (length declared.interfaces) (statement.Interface (record { name = n; device = d; area = a }))

-- `free DEV IF in` or `free DEV IF out`
unfoldable pub free_says : Declared → List (List ℕ) → Judged NetWhy Statement
free_says declared words =
    word_in why.BadShape words >>= λ device. named (device_names declared.devices) device.0 >>= λ d.
    word_in why.BadShape device.1 >>= λ name. interface_named (interface_names declared.interfaces) d name.0 >>= λ i.
    word_in why.BadShape name.1 >>= λ way. slot_of i way.0 >>= λ slot. new_slot declared.freed slot >>= λ slot.
    ended why.BadShape way.1 (statement.Free slot)

-- `goal AREA AREA never PRED` or `goal AREA AREA only PRED`
unfoldable pub goal_says : Declared → List (List ℕ) → Judged NetWhy Statement
goal_says declared words =
    word_in why.BadShape words >>= λ from. named (area_names declared.areas) from.0 >>= λ f.
    word_in why.BadShape from.1 >>= λ to. named (area_names declared.areas) to.0 >>= λ t. other_than f t >>= λ t.
    word_in why.BadShape to.1 >>= λ keyword. only_of keyword.0 >>= λ o.
    pred_in declared keyword.1 >>= λ p.
    within why.TooMany declaration_limit (length declared.goals) (statement.Goal (record { from = f; to = t; only = o; pred = p }))

-- ---- statements of the IPsec part, each without its first word

-- `sa NAME KIND DEV DEV`
unfoldable pub sa_says : Declared → List (List ℕ) → Judged NetWhy Statement
sa_says declared words =
    word_in why.BadShape words >>= λ name. new_name (sa_names declared.sas) name.0 >>= λ n.
    word_in why.BadShape name.1 >>= λ word. kind_of word.0 >>= λ k.
    device_next declared word.1 >>= λ from. device_next declared from.1 >>= λ to. ended why.BadShape to.1 to.0 >>= λ t.
    within why.TooMany declaration_limit (length declared.sas) (statement.Sa (record { name = n; kind = k; from = from.0; to = t }))

-- a rule, where there is room for it among those of all interfaces
abbrev pub rule_says : Declared → Statement → Judged NetWhy Statement
rule_says declared s = within why.TooMany rule_limit (rule_total declared.tables) s

-- `pop DEV IF SA`
unfoldable pub pop_says : Declared → List (List ℕ) → Judged NetWhy Statement
pop_says declared words =
    interface_next declared words >>= λ interface. ending_next declared interface.0 interface.1 >>= λ sa.
    new_pop declared interface.0 sa.0 >>= λ s. ended why.BadShape sa.1 s >>= λ s. rule_says declared (statement.Pop interface.0 s)

-- `inrule DEV IF ACTION MARK MATCH`
unfoldable pub inrule_says : Declared → List (List ℕ) → Judged NetWhy Statement
inrule_says declared words =
    interface_next declared words >>= λ interface. word_in why.BadShape interface.1 >>= λ word. in_action_of word.0 >>= λ a.
    mark_next declared interface.0 word.1 >>= λ m. match_in declared m.1 >>= λ t.
    rule_says declared (statement.InRule interface.0 (record { action = a; mark = m.0; top = t }))

-- `outrule DEV IF ACTION MATCH`
unfoldable pub outrule_says : Declared → List (List ℕ) → Judged NetWhy Statement
outrule_says declared words =
    interface_next declared words >>= λ interface. out_action_next declared interface.0 interface.1 >>= λ action. match_in declared action.1 >>= λ t.
    rule_says declared (statement.OutRule interface.0 (record { action = action.0; top = t }))

-- an IPsec goal, where there is room for it
abbrev pub ipgoal_says : Declared → IpGoal → Judged NetWhy Statement
ipgoal_says declared goal = within why.TooMany declaration_limit (length declared.ipgoals) (statement.IpGoal goal)

-- `auth AREA AREA PRED`
unfoldable pub auth_says : Declared → List (List ℕ) → Judged NetWhy Statement
auth_says declared words =
    area_next declared words >>= λ from. area_next declared from.1 >>= λ at. pred_in declared at.1 >>= λ p.
    ipgoal_says declared (ipgoal.Auth from.0 at.0 p)

-- `conf AREA PRED`
unfoldable pub conf_says : Declared → List (List ℕ) → Judged NetWhy Statement
conf_says declared words =
    area_next declared words >>= λ from. pred_in declared from.1 >>= λ p. ipgoal_says declared (ipgoal.Conf from.0 p)

-- ---- lines

-- a statement of the IPsec part, by its first word and the others
abbrev pub ipsec_says : Declared → List ℕ → List (List ℕ) → Judged NetWhy Statement
ipsec_says declared word words =
    if bytes_eq word (codes "sa") then sa_says declared words else
    (if bytes_eq word (codes "pop") then pop_says declared words else
    (if bytes_eq word (codes "inrule") then inrule_says declared words else
    (if bytes_eq word (codes "outrule") then outrule_says declared words else
    (if bytes_eq word (codes "auth") then auth_says declared words else
    (if bytes_eq word (codes "conf") then conf_says declared words else
    Err why.UnknownStatement)))))

-- a statement, by its first word and the others
abbrev pub statement_says : Declared → List ℕ → List (List ℕ) → Judged NetWhy Statement
statement_says declared word words =
    if bytes_eq word (codes "depth") then depth_says declared words else
    (if bytes_eq word (codes "area") then area_says declared words else
    (if bytes_eq word (codes "device") then device_says declared words else
    (if bytes_eq word (codes "interface") then interface_says declared words else
    (if bytes_eq word (codes "free") then free_says declared words else
    (if bytes_eq word (codes "goal") then goal_says declared words else
    ipsec_says declared word words)))))

-- a line without words and a comment, which begins with `#`, declare nothing; each other line is one statement
abbrev pub words_say : Declared → List (List ℕ) → Judged NetWhy (Option Statement)
words_say declared words = skipping.words_say 35 (λ word others. statement_says declared word others >>= λ s. Ok (Some s)) words

-- what a line declares after lines that declare this; the bytes of a comment are judged too
unfoldable pub line_says : Declared → List ℕ → Judged NetWhy (Option Statement)
line_says declared line = if list_all is_text_byte line then words_say declared (words_of line) else Err why.NotText
