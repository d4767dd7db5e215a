-- What holds of every network.
use Rattle.std.specs.Prelude.{◌≡◌, ℕ, ◌+◌, ◌*◌, ◌<◌, ◌≤◌, false, nat_eq, ◌==◌, List, [], ◌∷◌, length, map, IfSome, IsTrue, slice_index_or}
use Rattle.std.specs.List.{AllByRecursion, sum}
use Rattle.std.specs.Str.{bytes_eq}
use Rattle.np_pred.specs.Forms.{IsWellFormed}
use Rattle.np_pred.specs.Patterns.{are_prefixes}
use Rattle.np_net.specs.declared.filtering.Area.{Area}
use Rattle.np_net.specs.declared.filtering.Device.{Device}
use Rattle.np_net.specs.declared.filtering.Interface.{Interface}
use Rattle.np_net.specs.declared.filtering.Goal.{Goal}
use Rattle.np_net.specs.declared.associations.Kind.TheVariants as kind
use Rattle.np_net.specs.declared.associations.Sa.{Sa}
use Rattle.np_net.specs.declared.associations.Match.{Match}
use Rattle.np_net.specs.declared.associations.Match.TheVariants as top
use Rattle.np_net.specs.declared.associations.MarkTest.{MarkTest}
use Rattle.np_net.specs.declared.associations.MarkTest.TheVariants as mark
use Rattle.np_net.specs.declared.associations.OutAction.{OutAction}
use Rattle.np_net.specs.declared.associations.OutAction.TheVariants as action
use Rattle.np_net.specs.declared.associations.InRule.{InRule}
use Rattle.np_net.specs.declared.associations.OutRule.{OutRule}
use Rattle.np_net.specs.declared.associations.Table.{Table}
use Rattle.np_net.specs.declared.associations.IpGoal.{IpGoal}
use Rattle.np_net.specs.declared.associations.IpGoal.TheVariants as ipgoal
use Rattle.np_net.specs.Distinct.{AreDistinct, same_place}
use Rattle.np_net.specs.Limits.{declaration_limit, interface_limit, rule_limit, nesting_limit, depth_limit}
use Rattle.np_net.specs.Names.{is_name, is_interface_name, is_file_name}
use Rattle.np_net.specs.Plan.{Plan, area_names, device_names, interface_names, sa_names}

-- ---- the filtering part

-- an area has a name, and sends from prefixes
pub record IsArea (area : Area) : Type 0 where
  pub name : IsTrue (is_name area.name)
  pub sources : IsTrue (are_prefixes area.sources)

-- a device has a name, and its configuration's file too
pub record IsDevice (device : Device) : Type 0 where
  pub name : IsTrue (is_name device.name)
  pub config : IfSome device.config (λ file. IsTrue (is_file_name file))

-- an interface has a name, and joins one of so many devices and one of so many areas
pub record IsInterface (devices areas : ℕ) (interface : Interface) : Type 0 where
  pub name : IsTrue (is_interface_name interface.name)
  pub device : interface.device < devices
  pub area : interface.area < areas

-- a goal is on two of so many areas
pub record IsGoal (areas : ℕ) (goal : Goal) : Type 0 where
  pub from : goal.from < areas
  pub to : goal.to < areas
  pub apart : (goal.from == goal.to) ≡ false
  pub pred : IsWellFormed nesting_limit goal.pred

-- ---- the IPsec part

-- an association has a name, and joins two of so many devices
pub record IsSa (devices : ℕ) (sa : Sa) : Type 0 where
  pub name : IsTrue (is_name sa.name)
  pub from : sa.from < devices
  pub to : sa.to < devices

-- the association of this number
abbrev pub sa_at : List Sa → ℕ → Sa
sa_at sas n = slice_index_or sas n record { name = []; kind = kind.Esp; from = 0; to = 0 }

-- an association that this device puts around packets
pub record IsFrom (sas : List Sa) (device n : ℕ) : Type 0 where
  pub within : n < length sas
  pub begins : (sa_at sas n).from ≡ device

-- an association that this device removes from packets
pub record IsTo (sas : List Sa) (device n : ℕ) : Type 0 where
  pub within : n < length sas
  pub ends : (sa_at sas n).to ≡ device

-- a rule's match names an association, if any, that there is
abbrev pub IsMatch : List Sa → Match → Type 0
IsMatch sas (top.Plain pred) = IsWellFormed nesting_limit pred
IsMatch sas (top.Under n) = n < length sas
IsMatch sas top.Every = Unit {0}

-- a rule's mark is an association, if any, that its device removes
abbrev pub IsMark : List Sa → ℕ → MarkTest → Type 0
IsMark sas device mark.Unmarked = Unit {0}
IsMark sas device (mark.Popped n) = IsTo sas device n
IsMark sas device mark.AnyMark = Unit {0}

-- a rule protects, if at all, by an association that its device puts around packets
abbrev pub IsOutAction : List Sa → ℕ → OutAction → Type 0
IsOutAction sas device (action.Protect n) = IsFrom sas device n
IsOutAction sas device action.Bypass = Unit {0}
IsOutAction sas device action.Discard = Unit {0}

-- an inward rule of this device
pub record IsInRule (sas : List Sa) (device : ℕ) (rule : InRule) : Type 0 where
  pub mark : IsMark sas device rule.mark
  pub top : IsMatch sas rule.top

-- an outward rule of this device
pub record IsOutRule (sas : List Sa) (device : ℕ) (rule : OutRule) : Type 0 where
  pub action : IsOutAction sas device rule.action
  pub top : IsMatch sas rule.top

-- the rules of an interface of this device
pub record IsTable (sas : List Sa) (device : ℕ) (table : Table) : Type 0 where
  pub pops : AllByRecursion (λ n. IsTo sas device n) table.pops
  pub once : AreDistinct nat_eq table.pops
  pub ins : AllByRecursion (λ rule. IsInRule sas device rule) table.ins
  pub outs : AllByRecursion (λ rule. IsOutRule sas device rule) table.outs

-- one table for each interface, with the rules of its device
abbrev pub AreTables : List Sa → List Interface → List Table → Type 0
AreTables sas [] [] = Unit {0}
AreTables sas [] (table ∷ tables) = ⊥
AreTables sas (interface ∷ interfaces) [] = ⊥
AreTables sas (interface ∷ interfaces) (table ∷ tables) = IsTable sas interface.device table × AreTables sas interfaces tables

-- the rules of a table
abbrev pub rule_count : Table → ℕ
rule_count table = length table.pops + length table.ins + length table.outs

-- an IPsec goal is on areas of so many
abbrev pub IsIpGoal : ℕ → IpGoal → Type 0
IsIpGoal areas (ipgoal.Auth from at pred) = (from < areas) × (at < areas) × IsWellFormed nesting_limit pred
IsIpGoal areas (ipgoal.Conf from pred) = (from < areas) × IsWellFormed nesting_limit pred

-- ---- the whole

-- the lists are within their limits
pub record IsWithinLimits (net : Plan) : Type 0 where
  pub areas : length net.areas ≤ declaration_limit
  pub devices : length net.devices ≤ declaration_limit
  pub interfaces : length net.interfaces ≤ interface_limit
  pub goals : length net.goals ≤ declaration_limit
  pub sas : length net.sas ≤ declaration_limit
  pub rules : sum (map rule_count net.tables) ≤ rule_limit
  pub ipgoals : length net.ipgoals ≤ declaration_limit

-- names are unique: of areas, of devices and of associations, and of interfaces within their device
pub record HasUniqueNames (net : Plan) : Type 0 where
  pub areas : AreDistinct bytes_eq (area_names net.areas)
  pub devices : AreDistinct bytes_eq (device_names net.devices)
  pub interfaces : AreDistinct same_place (interface_names net.interfaces)
  pub sas : AreDistinct bytes_eq (sa_names net.sas)

-- what holds of every network
pub record IsNetwork (net : Plan) : Type 0 where
  pub limits : IsWithinLimits net
  pub names : HasUniqueNames net
  pub areas : AllByRecursion (λ area. IsArea area) net.areas
  pub devices : AllByRecursion (λ device. IsDevice device) net.devices
  pub interfaces : AllByRecursion (λ interface. IsInterface (length net.devices) (length net.areas) interface) net.interfaces
  pub free : length net.free ≡ 2 * length net.interfaces
  pub goals : AllByRecursion (λ goal. IsGoal (length net.areas) goal) net.goals
  pub sas : AllByRecursion (λ sa. IsSa (length net.devices) sa) net.sas
  pub tables : AreTables net.sas net.interfaces net.tables
  pub ipgoals : AllByRecursion (λ goal. IsIpGoal (length net.areas) goal) net.ipgoals
  pub shallow : 1 ≤ net.depth
  pub deep : net.depth ≤ depth_limit
