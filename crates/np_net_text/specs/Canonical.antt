-- The canonical text of a network.
use Rattle.std.specs.Prelude.{ℕ, Bool, List, [], ◌∷◌, ◌++◌, map, Option, Some, None, codes, if◌then◌else◌}
use Rattle.std.specs.Fmt.{decimal}
use Rattle.np_text.specs.Joined.{text_of_lines}
use Rattle.np_pred.specs.Canonical.{pred_words}
use Rattle.np_pred.specs.Patterns.{addresses_text}
use Rattle.np_net.specs.Naming.{area_name, device_name, sa_name}
use Rattle.np_net.specs.Plan.{Plan}
use Rattle.np_net.specs.declared.filtering.Area.{Area}
use Rattle.np_net.specs.declared.filtering.Device.{Device}
use Rattle.np_net.specs.declared.filtering.Interface.{Interface}
use Rattle.np_net.specs.declared.filtering.Goal.{Goal}
use Rattle.np_net.specs.declared.associations.Kind.{Kind}
use Rattle.np_net.specs.declared.associations.Kind.TheVariants as kind
use Rattle.np_net.specs.declared.associations.Sa.{Sa}
use Rattle.np_net.specs.declared.associations.Match.{Match}
use Rattle.np_net.specs.declared.associations.Match.TheVariants as top
use Rattle.np_net.specs.declared.associations.MarkTest.{MarkTest}
use Rattle.np_net.specs.declared.associations.MarkTest.TheVariants as mark
use Rattle.np_net.specs.declared.associations.InAction.{InAction}
use Rattle.np_net.specs.declared.associations.InAction.TheVariants as inward
use Rattle.np_net.specs.declared.associations.OutAction.{OutAction}
use Rattle.np_net.specs.declared.associations.OutAction.TheVariants as outward
use Rattle.np_net.specs.declared.associations.InRule.{InRule}
use Rattle.np_net.specs.declared.associations.OutRule.{OutRule}
use Rattle.np_net.specs.declared.associations.Table.{Table}
use Rattle.np_net.specs.declared.associations.IpGoal.{IpGoal}
use Rattle.np_net.specs.declared.associations.IpGoal.TheVariants as ipgoal

-- ---- the filtering part

-- `trusted`, or nothing
abbrev pub trusted_words : Bool → List (List ℕ)
trusted_words trusted = if trusted then codes "trusted" ∷ [] else []

-- `config FILE`, or nothing
abbrev pub config_words : Option (List ℕ) → List (List ℕ)
config_words None = []
config_words (Some file) = codes "config" ∷ file ∷ []

-- the words of the depth
abbrev pub depth_words : ℕ → List (List ℕ)
depth_words depth = codes "depth" ∷ decimal depth ∷ []

-- the words of an area; each prefix is written with its length
abbrev pub area_words : Area → List (List ℕ)
area_words area = codes "area" ∷ area.name ∷ addresses_text area.sources ∷ trusted_words area.trusted

-- the words of a device
abbrev pub device_words : Device → List (List ℕ)
device_words device = codes "device" ∷ device.name ∷ (config_words device.config ++ trusted_words device.trusted)

-- the words of an interface
abbrev pub interface_words : Plan → Interface → List (List ℕ)
interface_words net interface = codes "interface" ∷ device_name net interface.device ∷ interface.name ∷ area_name net interface.area ∷ []

-- an interface, by its device and its name
abbrev pub place_words : Plan → Interface → List (List ℕ)
place_words net interface = device_name net interface.device ∷ interface.name ∷ []

-- the words of a slot, where it is free
abbrev pub slot_line : Plan → Interface → List ℕ → Bool → List (List (List ℕ))
slot_line net interface way free = if free then (codes "free" ∷ (place_words net interface ++ way ∷ [])) ∷ [] else []

-- the words of the free slots of these interfaces; each has the next two of the flags, inward and outward
abbrev pub free_lines : Plan → List Interface → List Bool → List (List (List ℕ))
free_lines net (interface ∷ interfaces) (inward ∷ outward ∷ free) =
    slot_line net interface (codes "in") inward ++ (slot_line net interface (codes "out") outward ++ free_lines net interfaces free)
free_lines net (interface ∷ interfaces) (inward ∷ []) = []
free_lines net (interface ∷ interfaces) [] = []
free_lines net [] free = []

-- `never` or `only`
abbrev pub only_word : Bool → List ℕ
only_word only = if only then codes "only" else codes "never"

-- the words of a filtering goal; its predicate names no area
abbrev pub goal_words : Plan → Goal → List (List ℕ)
goal_words net goal = codes "goal" ∷ area_name net goal.from ∷ area_name net goal.to ∷ only_word goal.only ∷ pred_words goal.pred

-- ---- the IPsec part

-- `esp`, `esp-enc`, `esp-null` or `ah`
abbrev pub kind_word : Kind → List ℕ
kind_word kind.Esp = codes "esp"
kind_word kind.EspEnc = codes "esp-enc"
kind_word kind.EspNull = codes "esp-null"
kind_word kind.Ah = codes "ah"

-- the words of a security association
abbrev pub sa_words : Plan → Sa → List (List ℕ)
sa_words net sa = codes "sa" ∷ sa.name ∷ kind_word sa.kind ∷ device_name net sa.from ∷ device_name net sa.to ∷ []

-- the words of a match
abbrev pub match_words : Plan → Match → List (List ℕ)
match_words net (top.Plain pred) = codes "plain" ∷ pred_words pred
match_words net (top.Under sa) = codes "under" ∷ sa_name net sa ∷ []
match_words net top.Every = codes "every" ∷ []

-- the words of a mark
abbrev pub mark_words : Plan → MarkTest → List (List ℕ)
mark_words net mark.Unmarked = codes "unmarked" ∷ []
mark_words net (mark.Popped sa) = codes "popped" ∷ sa_name net sa ∷ []
mark_words net mark.AnyMark = codes "anymark" ∷ []

-- the word of an inward action
abbrev pub in_action_word : InAction → List ℕ
in_action_word inward.Bypass = codes "bypass"
in_action_word inward.Discard = codes "discard"

-- the words of an outward action
abbrev pub out_action_words : Plan → OutAction → List (List ℕ)
out_action_words net (outward.Protect sa) = codes "protect" ∷ sa_name net sa ∷ []
out_action_words net outward.Bypass = codes "bypass" ∷ []
out_action_words net outward.Discard = codes "discard" ∷ []

-- the words of a pop rule
abbrev pub pop_words : Plan → Interface → ℕ → List (List ℕ)
pop_words net interface sa = codes "pop" ∷ (place_words net interface ++ sa_name net sa ∷ [])

-- the words of an inward rule
abbrev pub in_rule_words : Plan → Interface → InRule → List (List ℕ)
in_rule_words net interface rule =
    codes "inrule" ∷ (place_words net interface ++ in_action_word rule.action ∷ (mark_words net rule.mark ++ match_words net rule.top))

-- the words of an outward rule
abbrev pub out_rule_words : Plan → Interface → OutRule → List (List ℕ)
out_rule_words net interface rule =
    codes "outrule" ∷ (place_words net interface ++ (out_action_words net rule.action ++ match_words net rule.top))

-- the words of the rules of an interface: its pop rules, its inward rules and its outward rules, each in their order
abbrev pub table_lines : Plan → Interface → Table → List (List (List ℕ))
table_lines net interface table =
    map (pop_words net interface) table.pops ++ (map (in_rule_words net interface) table.ins ++ map (out_rule_words net interface) table.outs)

-- the words of the rules of these interfaces, each with its table
abbrev pub rule_lines : Plan → List Interface → List Table → List (List (List ℕ))
rule_lines net (interface ∷ interfaces) (table ∷ tables) = table_lines net interface table ++ rule_lines net interfaces tables
rule_lines net (interface ∷ interfaces) [] = []
rule_lines net [] tables = []

-- the words of an IPsec goal
abbrev pub ipgoal_words : Plan → IpGoal → List (List ℕ)
ipgoal_words net (ipgoal.Auth from at pred) = codes "auth" ∷ area_name net from ∷ area_name net at ∷ pred_words pred
ipgoal_words net (ipgoal.Conf from pred) = codes "conf" ∷ area_name net from ∷ pred_words pred

-- ---- the whole

-- the words of each line of the filtering part
abbrev pub filtering_lines : Plan → List (List (List ℕ))
filtering_lines net =
    depth_words net.depth ∷
    (map area_words net.areas ++
    (map device_words net.devices ++
    (map (interface_words net) net.interfaces ++
    (free_lines net net.interfaces net.free ++
    map (goal_words net) net.goals))))

-- the words of each line of the IPsec part
abbrev pub ipsec_lines : Plan → List (List (List ℕ))
ipsec_lines net =
    map (sa_words net) net.sas ++
    (rule_lines net net.interfaces net.tables ++
    map (ipgoal_words net) net.ipgoals)

-- the words of each line
abbrev pub net_lines : Plan → List (List (List ℕ))
net_lines net = filtering_lines net ++ ipsec_lines net

-- the canonical text
abbrev pub net_text : Plan → List ℕ
net_text net = text_of_lines (net_lines net)
