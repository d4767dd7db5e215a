-- The lists of a small network: one area, two devices that are on it, and an association between them.
use Rattle.std.specs.Prelude.{ℕ, false, List, [], ◌∷◌, None, codes}
use Rattle.np_net.specs.declared.filtering.Area.{Area}
use Rattle.np_net.specs.declared.filtering.Device.{Device}
use Rattle.np_net.specs.declared.filtering.Interface.{Interface}
use Rattle.np_net.specs.declared.associations.Kind.TheVariants as kinds
use Rattle.np_net.specs.declared.associations.Sa.{Sa}
use Rattle.np_net.specs.declared.associations.Table.{Table}
use Rattle.np_net_read.specs.Tables.{no_rules}

abbrev pub small_areas : List Area
small_areas = record { name = codes "x"; sources = []; trusted = false } ∷ []

-- a device of this name
abbrev pub small_device : List ℕ → Device
small_device name = record { name = name; config = None; trusted = false }

abbrev pub small_devices : List Device
small_devices = small_device (codes "g") ∷ small_device (codes "h") ∷ []

-- an interface of this name, of this device
abbrev pub small_interface : List ℕ → ℕ → Interface
small_interface name device = record { name = name; device = device; area = 0 }

abbrev pub small_interfaces : List Interface
small_interfaces = small_interface (codes "e0") 0 ∷ small_interface (codes "e1") 0 ∷ small_interface (codes "e1") 1 ∷ []

abbrev pub small_associations : List Sa
small_associations = record { name = codes "t"; kind = kinds.Esp; from = 0; to = 1 } ∷ []

abbrev pub small_tables : List Table
small_tables = no_rules ∷ no_rules ∷ no_rules ∷ []
