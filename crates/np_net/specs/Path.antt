-- Paths through a network: areas joined by hops, each across one device.
use Rattle.std.specs.Prelude.{◌≡◌, ℕ, ◌<◌, List, [], ◌∷◌, length, slice_index_or}
use Rattle.np_net.specs.declared.filtering.Interface.{Interface}

-- the interface of this number
abbrev pub interface_at : List Interface → ℕ → Interface
interface_at interfaces n = slice_index_or interfaces n record { name = []; device = 0; area = 0 }

-- the device that an interface belongs to
abbrev pub device_of : List Interface → ℕ → ℕ
device_of interfaces n = (interface_at interfaces n).device

-- the area that an interface is on
abbrev pub area_of : List Interface → ℕ → ℕ
area_of interfaces n = (interface_at interfaces n).area

-- A hop crosses a device: in by one interface and out by an interface of the same device. The two may be the same one.
abbrev pub IsHop : List Interface → ℕ × ℕ → Type 0
IsHop interfaces hop = (hop.0 < length interfaces) × (hop.1 < length interfaces) × (device_of interfaces hop.0 ≡ device_of interfaces hop.1)

-- Hops that lead from area a to area b, each beginning on the area where the one before ended.
abbrev pub Leads : List Interface → ℕ → List (ℕ × ℕ) → ℕ → Type 0
Leads interfaces a [] b = a ≡ b
Leads interfaces a (hop ∷ hops) b = IsHop interfaces hop × (area_of interfaces hop.0 ≡ a) × Leads interfaces (area_of interfaces hop.1) hops b

-- A path from area a to area b has at least one hop, and may have any number of them.
pub record IsPath (interfaces : List Interface) (a : ℕ) (hops : List (ℕ × ℕ)) (b : ℕ) : Type 0 where
  pub some : 0 < length hops
  pub leads : Leads interfaces a hops b
