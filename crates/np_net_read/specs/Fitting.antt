-- Statements that may stand after what is declared, and declarations that make a network.
use Rattle.std.specs.Prelude.{◌≡◌, ℕ, ◌*◌, ◌<◌, ◌≤◌, false, nat_eq, [], ◌∷◌, ◌++◌, length, Some, None, IfSome}
use Rattle.std.specs.List.{AllByRecursion, list_any}
use Rattle.std.specs.Str.{bytes_eq}
use Rattle.np_net.specs.Distinct.{AreDistinct, same_place}
use Rattle.np_net.specs.Limits.{declaration_limit, interface_limit, rule_limit, depth_limit}
use Rattle.np_net.specs.Network.{IsArea, IsDevice, IsInterface, IsGoal, IsSa, IsTo, IsInRule, IsOutRule, AreTables, IsIpGoal}
use Rattle.np_net.specs.Path.{device_of}
use Rattle.np_net.specs.Plan.{area_names, device_names, interface_names, sa_names}
use Rattle.np_net.specs.declared.filtering.Area.{Area}
use Rattle.np_net.specs.declared.filtering.Device.{Device}
use Rattle.np_net.specs.declared.filtering.Interface.{Interface}
use Rattle.np_net.specs.declared.filtering.Goal.{Goal}
use Rattle.np_net.specs.declared.associations.Sa.{Sa}
use Rattle.np_net.specs.declared.associations.InRule.{InRule}
use Rattle.np_net.specs.declared.associations.OutRule.{OutRule}
use Rattle.np_net.specs.declared.associations.IpGoal.{IpGoal}
use Rattle.np_net_read.specs.declared.declared.Declared.{Declared}
use Rattle.np_net_read.specs.declared.statement.Statement.{Statement}
use Rattle.np_net_read.specs.declared.statement.Statement.TheVariants as statement
use Rattle.np_net_read.specs.Tables.{changed_at, no_rules, rule_total, table_at, with_in_rule, with_out_rule, with_pop}

-- a depth that may be declared
pub record IsNewDepth (declared : Declared) (depth : ℕ) : Type 0 where
  pub new : declared.depth ≡ None
  pub shallow : 1 ≤ depth
  pub deep : depth ≤ depth_limit

-- an area that may be declared
pub record IsNewArea (declared : Declared) (area : Area) : Type 0 where
  pub formed : IsArea area
  pub new : list_any (bytes_eq area.name) (area_names declared.areas) ≡ false
  pub room : length declared.areas < declaration_limit

-- a device that may be declared
pub record IsNewDevice (declared : Declared) (device : Device) : Type 0 where
  pub formed : IsDevice device
  pub new : list_any (bytes_eq device.name) (device_names declared.devices) ≡ false
  pub room : length declared.devices < declaration_limit

-- an interface that may be declared
pub record IsNewInterface (declared : Declared) (interface : Interface) : Type 0 where
  pub formed : IsInterface (length declared.devices) (length declared.areas) interface
  pub new : list_any (same_place (interface.device, interface.name)) (interface_names declared.interfaces) ≡ false
  pub room : length declared.interfaces < interface_limit

-- a slot that may be freed
pub record IsNewSlot (declared : Declared) (slot : ℕ) : Type 0 where
  pub within : slot < 2 * length declared.interfaces
  pub new : list_any (nat_eq slot) declared.freed ≡ false

-- a goal that may be declared
pub record IsNewGoal (declared : Declared) (goal : Goal) : Type 0 where
  pub formed : IsGoal (length declared.areas) goal
  pub room : length declared.goals < declaration_limit

-- an association that may be declared
pub record IsNewSa (declared : Declared) (sa : Sa) : Type 0 where
  pub formed : IsSa (length declared.devices) sa
  pub new : list_any (bytes_eq sa.name) (sa_names declared.sas) ≡ false
  pub room : length declared.sas < declaration_limit

-- an interface that there is, with room for one more rule
pub record HasRoom (declared : Declared) (interface : ℕ) : Type 0 where
  pub within : interface < length declared.interfaces
  pub room : rule_total declared.tables < rule_limit

-- a pop rule that may be declared
pub record IsNewPop (declared : Declared) (interface sa : ℕ) : Type 0 where
  pub room : HasRoom declared interface
  pub formed : IsTo declared.sas (device_of declared.interfaces interface) sa
  pub new : list_any (nat_eq sa) (table_at declared.tables interface).pops ≡ false

-- an inward rule that may be declared
pub record IsNewInRule (declared : Declared) (interface : ℕ) (rule : InRule) : Type 0 where
  pub room : HasRoom declared interface
  pub formed : IsInRule declared.sas (device_of declared.interfaces interface) rule

-- an outward rule that may be declared
pub record IsNewOutRule (declared : Declared) (interface : ℕ) (rule : OutRule) : Type 0 where
  pub room : HasRoom declared interface
  pub formed : IsOutRule declared.sas (device_of declared.interfaces interface) rule

-- an IPsec goal that may be declared
pub record IsNewIpGoal (declared : Declared) (goal : IpGoal) : Type 0 where
  pub formed : IsIpGoal (length declared.areas) goal
  pub room : length declared.ipgoals < declaration_limit

-- a statement that may stand after what is declared
abbrev pub Fits : Declared → Statement → Type 0
Fits declared (statement.Depth depth) = IsNewDepth declared depth
Fits declared (statement.Area area) = IsNewArea declared area
Fits declared (statement.Device device) = IsNewDevice declared device
Fits declared (statement.Interface interface) = IsNewInterface declared interface
Fits declared (statement.Free slot) = IsNewSlot declared slot
Fits declared (statement.Goal goal) = IsNewGoal declared goal
Fits declared (statement.Sa sa) = IsNewSa declared sa
Fits declared (statement.Pop interface sa) = IsNewPop declared interface sa
Fits declared (statement.InRule interface rule) = IsNewInRule declared interface rule
Fits declared (statement.OutRule interface rule) = IsNewOutRule declared interface rule
Fits declared (statement.IpGoal goal) = IsNewIpGoal declared goal

-- what is declared, with one more statement
abbrev pub added : Declared → Statement → Declared
added declared (statement.Depth depth) = record declared { depth = Some depth }
added declared (statement.Area area) = record declared { areas = declared.areas ++ area ∷ [] }
added declared (statement.Device device) = record declared { devices = declared.devices ++ device ∷ [] }
added declared (statement.Interface interface) =
    record declared { interfaces = declared.interfaces ++ interface ∷ []; tables = declared.tables ++ no_rules ∷ [] }
added declared (statement.Free slot) = record declared { freed = declared.freed ++ slot ∷ [] }
added declared (statement.Goal goal) = record declared { goals = declared.goals ++ goal ∷ [] }
added declared (statement.Sa sa) = record declared { sas = declared.sas ++ sa ∷ [] }
added declared (statement.Pop interface sa) = record declared { tables = changed_at interface (with_pop sa) declared.tables }
added declared (statement.InRule interface rule) = record declared { tables = changed_at interface (with_in_rule rule) declared.tables }
added declared (statement.OutRule interface rule) = record declared { tables = changed_at interface (with_out_rule rule) declared.tables }
added declared (statement.IpGoal goal) = record declared { ipgoals = declared.ipgoals ++ goal ∷ [] }

-- declarations that make a network
pub record IsSound (declared : Declared) : Type 0 where
  pub area_room : length declared.areas ≤ declaration_limit
  pub device_room : length declared.devices ≤ declaration_limit
  pub interface_room : length declared.interfaces ≤ interface_limit
  pub goal_room : length declared.goals ≤ declaration_limit
  pub sa_room : length declared.sas ≤ declaration_limit
  pub rule_room : rule_total declared.tables ≤ rule_limit
  pub ipgoal_room : length declared.ipgoals ≤ declaration_limit
  pub area_names : AreDistinct bytes_eq (area_names declared.areas)
  pub device_names : AreDistinct bytes_eq (device_names declared.devices)
  pub interface_names : AreDistinct same_place (interface_names declared.interfaces)
  pub sa_names : AreDistinct bytes_eq (sa_names declared.sas)
  pub areas : AllByRecursion (λ area. IsArea area) declared.areas
  pub devices : AllByRecursion (λ device. IsDevice device) declared.devices
  pub interfaces : AllByRecursion (λ interface. IsInterface (length declared.devices) (length declared.areas) interface) declared.interfaces
  pub freed : AllByRecursion (λ slot. slot < 2 * length declared.interfaces) declared.freed
  pub goals : AllByRecursion (λ goal. IsGoal (length declared.areas) goal) declared.goals
  pub sas : AllByRecursion (λ sa. IsSa (length declared.devices) sa) declared.sas
  pub tables : AreTables declared.sas declared.interfaces declared.tables
  pub ipgoals : AllByRecursion (λ goal. IsIpGoal (length declared.areas) goal) declared.ipgoals
  pub depth : IfSome declared.depth (λ depth. (1 ≤ depth) × (depth ≤ depth_limit))
