-- Names by number, and numbers by name.
use Rattle.std.specs.Prelude.{◌≡◌, ℕ, ◌<◌, ◌≤◌, List, [], length, Option, Some, position, slice_index_or}
use Rattle.std.specs.Str.{bytes_eq}
use Rattle.np_net.specs.Distinct.{same_place}
use Rattle.np_net.specs.Limits.{declaration_limit, interface_limit}
use Rattle.np_net.specs.Path.{interface_at, device_of}
use Rattle.np_net.specs.Plan.{Plan, area_names, device_names, interface_names, sa_names}

-- the name of this number
abbrev pub name_at : List (List ℕ) → ℕ → List ℕ
name_at names n = slice_index_or names n []

-- the name of an area
abbrev pub area_name : Plan → ℕ → List ℕ
area_name net n = name_at (area_names net.areas) n

-- the name of a device
abbrev pub device_name : Plan → ℕ → List ℕ
device_name net n = name_at (device_names net.devices) n

-- the name of an interface, without its device's
abbrev pub interface_name : Plan → ℕ → List ℕ
interface_name net n = (interface_at net.interfaces n).name

-- the name of a security association
abbrev pub sa_name : Plan → ℕ → List ℕ
sa_name net n = name_at (sa_names net.sas) n

-- the number of the first of these names that is this word
abbrev pub id_named : List (List ℕ) → List ℕ → Option ℕ
id_named names word = position (bytes_eq word) names

-- the number of the first of these interfaces that has this device and this name
abbrev pub interface_id_named : List (ℕ × List ℕ) → ℕ → List ℕ → Option ℕ
interface_id_named places device word = position (same_place (device, word)) places

-- the names of a network, each list in the order of its items' numbers; an interface's name is within its device
pub record NameLists : Type 0 where
  pub areas : List (List ℕ)
  pub devices : List (List ℕ)
  pub interfaces : List (ℕ × List ℕ)
  pub sas : List (List ℕ)

-- the names of this network
abbrev pub name_lists : Plan → NameLists
name_lists net = record { areas = area_names net.areas; devices = device_names net.devices; interfaces = interface_names net.interfaces; sas = sa_names net.sas }

-- each list is within its limit
pub record AreFewNames (names : NameLists) : Type 0 where
  pub areas : length names.areas ≤ declaration_limit
  pub devices : length names.devices ≤ declaration_limit
  pub interfaces : length names.interfaces ≤ interface_limit
  pub sas : length names.sas ≤ declaration_limit

-- a law: in each network the name of a number within its list is found, and its number is that one
pub record NamesAreFound (net : Plan) : Type 0 where
  pub areas : (n : ℕ) → n < length net.areas → id_named (area_names net.areas) (area_name net n) ≡ Some n
  pub devices : (n : ℕ) → n < length net.devices → id_named (device_names net.devices) (device_name net n) ≡ Some n
  pub interfaces : (n : ℕ) → n < length net.interfaces → interface_id_named (interface_names net.interfaces) (device_of net.interfaces n) (interface_name net n) ≡ Some n
  pub sas : (n : ℕ) → n < length net.sas → id_named (sa_names net.sas) (sa_name net n) ≡ Some n
