-- Which access lists configurations apply at the slots of a network, and what crosses there.
use Rattle.std.specs.Prelude.{◌≡◌, ℕ, ◌*◌, ◌/◌, ◌%◌, ◌==◌, Bool, true, List, [], ◌∷◌, ◌++◌, length, map, fold, Option, Some, None, option_map, option_and_then, unwrap_or, slice_index_or, if◌then◌else◌, position, get_or, IsSome}
use Rattle.std.specs.List.{list_any, range_with_len}
use Rattle.std.specs.Map.{lookup}
use Rattle.std.specs.Option.{option_map_or}
use Rattle.std.specs.Str.{bytes_eq}
use Rattle.np_space.specs.declared.headers.Header.{Header}
use Rattle.np_acl.specs.declared.entries.Entry.{Entry}
use Rattle.np_acl.specs.declared.kinds.Way.{Way}
use Rattle.np_acl.specs.declared.kinds.Way.TheVariants.{Inward, Outward}
use Rattle.np_acl.specs.Entries.{list_permits}
use Rattle.np_acl_read.specs.declared.config.Config.{Config}
use Rattle.np_acl_read.specs.Groups.{applied, no_groups}
use Rattle.np_net.specs.declared.filtering.Interface.{Interface}
use Rattle.np_net.specs.Path.{interface_at}
use Rattle.np_net.specs.Distinct.{same_place}
use Rattle.np_cut.specs.AppliedLists.{AppliedLists}

-- ---- a configuration

-- a list, if it has entries
abbrev pub some_entries : List Entry → Option (List Entry)
some_entries [] = None
some_entries (e ∷ es) = Some (e ∷ es)

-- the list of this name, if it is defined and has entries
abbrev pub list_with_entries : List (List ℕ × List Entry) → List ℕ → Option (List Entry)
list_with_entries lists name = option_and_then some_entries (lookup (bytes_eq name) lists)

-- a device and a list's name, where the list is defined and has entries
abbrev pub named_key : List (List ℕ × List Entry) → ℕ → List ℕ → Option (ℕ × List ℕ)
named_key lists device name = option_map (λ list. (device, name)) (list_with_entries lists name)

-- this device and the name of the list that its configuration applies at an interface in this way: none where no group
-- stands there, or its list isn't defined or has no entries
abbrev pub key_in : Config → ℕ → List ℕ → Way → Option (ℕ × List ℕ)
key_in config device interface way = option_and_then (named_key config.lists device) (lookup (bytes_eq interface) (applied config.groups way))

-- the configuration of the device at this place; a device without one has no lists and no groups
abbrev pub config_at : List Config → ℕ → Config
config_at configs device = slice_index_or configs device record { lists = []; groups = no_groups }

-- ---- a slot

-- slot 2 * n is interface n inward, and slot 2 * n + 1 is interface n outward
abbrev pub slot_interface : List Interface → ℕ → Interface
slot_interface interfaces slot = interface_at interfaces (slot / 2)

-- whether a slot is its interface inward or outward
abbrev pub slot_way : ℕ → Way
slot_way slot = if slot % 2 == 0 then Inward else Outward

-- the configuration of the slot's device
abbrev pub slot_config : List Interface → List Config → ℕ → Config
slot_config interfaces configs slot = config_at configs (slot_interface interfaces slot).device

-- the name of the list that is applied at a slot
abbrev pub slot_name : List Interface → List Config → ℕ → Option (List ℕ)
slot_name interfaces configs slot =
    lookup (bytes_eq (slot_interface interfaces slot).name) (applied (slot_config interfaces configs slot).groups (slot_way slot))

-- the list that is applied at a slot: none where no group stands for it, or its list isn't defined or has no entries
abbrev pub slot_list : List Interface → List Config → ℕ → Option (List Entry)
slot_list interfaces configs slot = option_and_then (list_with_entries (slot_config interfaces configs slot).lists) (slot_name interfaces configs slot)

-- that list's device and name
abbrev pub slot_key : List Interface → List Config → ℕ → Option (ℕ × List ℕ)
slot_key interfaces configs slot =
    key_in (slot_config interfaces configs slot) (slot_interface interfaces slot).device (slot_interface interfaces slot).name (slot_way slot)

-- what crosses a slot: what the list that is applied there permits, and everything where there is none
abbrev pub slot_lets : List Interface → List Config → ℕ → Header → Bool
slot_lets interfaces configs slot h = option_map_or (λ list. list_permits list h) (slot_list interfaces configs slot) true

-- ---- all slots

-- the key of each slot
abbrev pub slot_keys : List Interface → List Config → List (Option (ℕ × List ℕ))
slot_keys interfaces configs = map (slot_key interfaces configs) (range_with_len 0 (2 * length interfaces))

-- keys with one more, after the others, where it isn't there
abbrev pub with_key : List (ℕ × List ℕ) → ℕ × List ℕ → List (ℕ × List ℕ)
with_key keys key = if list_any (same_place key) keys then keys else keys ++ key ∷ []

-- keys with the one of a slot, if it has one
abbrev pub with_slot_key : List (ℕ × List ℕ) → Option (ℕ × List ℕ) → List (ℕ × List ℕ)
with_slot_key keys None = keys
with_slot_key keys (Some key) = with_key keys key

-- the keys of slots, each once, in the order of the first slot that has it
abbrev pub names_of_keys : List (Option (ℕ × List ℕ)) → List (ℕ × List ℕ)
names_of_keys keys = fold with_slot_key [] keys

-- the place of a slot's key among names
abbrev pub place_in : List (ℕ × List ℕ) → Option (ℕ × List ℕ) → Option ℕ
place_in names key = option_and_then (λ k. position (same_place k) names) key

-- the list of a device and a name, if it is there
abbrev pub list_there : List Config → ℕ × List ℕ → Option (List Entry)
list_there configs key = lookup (bytes_eq key.1) (config_at configs key.0).lists

-- the list of each slot's key is there
abbrev pub AreThere : List Config → List (Option (ℕ × List ℕ)) → Type 0
AreThere configs keys = (slot : ℕ) (key : ℕ × List ℕ) → get_or keys slot None ≡ Some key → IsSome (list_there configs key)

-- the list of a device and a name
abbrev pub key_list : List Config → ℕ × List ℕ → List Entry
key_list configs key = unwrap_or (list_there configs key) []

-- the lists of configurations that slots of these keys apply, and where
abbrev pub applied_by_keys : List Config → List (Option (ℕ × List ℕ)) → AppliedLists
applied_by_keys configs keys = record {
  lists = map (key_list configs) (names_of_keys keys);
  names = names_of_keys keys;
  at = map (place_in (names_of_keys keys)) keys;
}

-- the lists that configurations apply at the slots of interfaces, and where
abbrev pub applied_of : List Interface → List Config → AppliedLists
applied_of interfaces configs = applied_by_keys configs (slot_keys interfaces configs)
