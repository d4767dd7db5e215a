-- What the statements of a text declare.
use Rattle.std.specs.Prelude.{ℕ, ◌+◌, ◌*◌, Bool, nat_eq, ◌==◌, List, [], ◌∷◌, length, map, Option, Some, None, if◌then◌else◌}
use Rattle.std.specs.List.{filter_map, list_any, range_with_len}
use Rattle.np_lines.specs.Declaring.{last_or}
use Rattle.np_net.specs.Plan.{Plan}
use Rattle.np_net.specs.declared.filtering.Area.{Area}
use Rattle.np_net.specs.declared.filtering.Device.{Device}
use Rattle.np_net.specs.declared.filtering.Interface.{Interface}
use Rattle.np_net.specs.declared.filtering.Goal.{Goal}
use Rattle.np_net.specs.declared.associations.Sa.{Sa}
use Rattle.np_net.specs.declared.associations.InRule.{InRule}
use Rattle.np_net.specs.declared.associations.OutRule.{OutRule}
use Rattle.np_net.specs.declared.associations.Table.{Table}
use Rattle.np_net.specs.declared.associations.IpGoal.{IpGoal}
use Rattle.np_net_read.specs.declared.declared.Declared.{Declared}
use Rattle.np_net_read.specs.declared.statement.Statement.{Statement}
use Rattle.np_net_read.specs.declared.statement.Statement.TheVariants as statement

-- the depth that a statement gives, if it is one of depth
abbrev pub depth_in : Statement → Option ℕ
depth_in (statement.Depth depth) = Some depth
depth_in other = None

-- the same of an area
abbrev pub area_in : Statement → Option Area
area_in (statement.Area area) = Some area
area_in other = None

-- the same of a device
abbrev pub device_in : Statement → Option Device
device_in (statement.Device device) = Some device
device_in other = None

-- the same of an interface
abbrev pub interface_in : Statement → Option Interface
interface_in (statement.Interface interface) = Some interface
interface_in other = None

-- the same of a free slot
abbrev pub slot_in : Statement → Option ℕ
slot_in (statement.Free slot) = Some slot
slot_in other = None

-- the same of a goal
abbrev pub goal_in : Statement → Option Goal
goal_in (statement.Goal goal) = Some goal
goal_in other = None

-- the same of a security association
abbrev pub sa_in : Statement → Option Sa
sa_in (statement.Sa sa) = Some sa
sa_in other = None

-- the association of a pop rule at the interface of this number, if a statement declares one
abbrev pub pop_in : ℕ → Statement → Option ℕ
pop_in n (statement.Pop interface sa) = if interface == n then Some sa else None
pop_in n other = None

-- the same of an inward rule
abbrev pub in_rule_in : ℕ → Statement → Option InRule
in_rule_in n (statement.InRule interface rule) = if interface == n then Some rule else None
in_rule_in n other = None

-- the same of an outward rule
abbrev pub out_rule_in : ℕ → Statement → Option OutRule
out_rule_in n (statement.OutRule interface rule) = if interface == n then Some rule else None
out_rule_in n other = None

-- the rules that statements declare at the interface of this number
abbrev pub table_of : ℕ → List Statement → Table
table_of n statements = record {
  pops = filter_map (pop_in n) statements;
  ins = filter_map (in_rule_in n) statements;
  outs = filter_map (out_rule_in n) statements;
}

-- The tables of the interfaces that statements declare, the first of which has this number. A rule names an interface that stands before
-- it, so the rules of an interface are among the statements after its own.
abbrev pub tables_from : ℕ → List Statement → List Table
tables_from n [] = []
tables_from n (statement.Interface interface ∷ statements) = table_of n statements ∷ tables_from (n + 1) statements
tables_from n (other ∷ statements) = tables_from n statements

-- the same of an IPsec goal
abbrev pub ipgoal_in : Statement → Option IpGoal
ipgoal_in (statement.IpGoal goal) = Some goal
ipgoal_in other = None

-- what the statements of a network's text declare: each list has its own of them, in their order, and each interface a table of its rules
unfoldable pub declared_by_network : List Statement → Declared
declared_by_network statements = record {
  areas = filter_map area_in statements;
  devices = filter_map device_in statements;
  interfaces = filter_map interface_in statements;
  freed = filter_map slot_in statements;
  goals = filter_map goal_in statements;
  sas = filter_map sa_in statements;
  tables = tables_from 0 statements;
  ipgoals = filter_map ipgoal_in statements;
  depth = last_or None (filter_map depth_in statements);
}

-- the depth of a network without a statement of it
abbrev pub depth_or_default : Option ℕ → ℕ
depth_or_default None = 8
depth_or_default (Some depth) = depth

-- for each of so many slots, whether it is among those that are freed
abbrev pub free_flags : List ℕ → ℕ → List Bool
free_flags freed count = map (λ slot. list_any (nat_eq slot) freed) (range_with_len 0 count)

-- the network of what is declared
unfoldable pub network_of : Declared → Plan
network_of declared = record {
  areas = declared.areas;
  devices = declared.devices;
  interfaces = declared.interfaces;
  free = free_flags declared.freed (2 * length declared.interfaces);
  goals = declared.goals;
  sas = declared.sas;
  tables = declared.tables;
  ipgoals = declared.ipgoals;
  depth = depth_or_default declared.depth;
}
