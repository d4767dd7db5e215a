-- What contracts see of a network.
use Rattle.std.specs.Prelude.{ℕ, Bool, List, map}
use Rattle.np_net.specs.declared.filtering.Area.{Area}
use Rattle.np_net.specs.declared.filtering.Device.{Device}
use Rattle.np_net.specs.declared.filtering.Interface.{Interface}
use Rattle.np_net.specs.declared.filtering.Goal.{Goal}
use Rattle.np_net.specs.declared.associations.Sa.{Sa}
use Rattle.np_net.specs.declared.associations.Table.{Table}
use Rattle.np_net.specs.declared.associations.IpGoal.{IpGoal}

-- the lists of a network, each in the order of its items' numbers, and its depth
pub record Plan : Type 0 where
  pub areas : List Area
  pub devices : List Device
  pub interfaces : List Interface
  pub free : List Bool
  pub goals : List Goal
  pub sas : List Sa
  pub tables : List Table
  pub ipgoals : List IpGoal
  pub depth : ℕ

-- the names of areas
abbrev pub area_names : List Area → List (List ℕ)
area_names areas = map (λ area. area.name) areas

-- the names of devices
abbrev pub device_names : List Device → List (List ℕ)
device_names devices = map (λ device. device.name) devices

-- interfaces, each by its device and its name
abbrev pub interface_names : List Interface → List (ℕ × List ℕ)
interface_names interfaces = map (λ interface. (interface.device, interface.name)) interfaces

-- the names of security associations
abbrev pub sa_names : List Sa → List (List ℕ)
sa_names sas = map (λ sa. sa.name) sas
