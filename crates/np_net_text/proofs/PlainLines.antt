-- The lines of a network's filtering part are of plain words.
use Rattle.std.proofs.Common.{◌≡◌, ℕ, zero, suc, ◌<◌, ◌≤◌, Bool, true, false, List, [], ◌∷◌, ◌++◌, length, get_or, map, Option, Some, None, IfSome, codes, refl, arith}
use Rattle.std.specs.List.{AllByRecursion}
use Rattle.std.specs.Fmt.{decimal}
use Rattle.np_net.specs.Limits.{depth_limit}
use Rattle.np_net.specs.Names.{is_file_name}
use Rattle.np_net.specs.Network.{IsArea, IsDevice, IsInterface, IsGoal, IsNetwork}
use Rattle.np_net.specs.Naming.{area_name, device_name}
use Rattle.np_net.specs.Plan.{Plan}
use Rattle.np_net.specs.declared.filtering.Area.{Area}
use Rattle.np_net.specs.declared.filtering.Device.{Device}
use Rattle.np_net.specs.declared.filtering.Interface.{Interface}
use Rattle.np_net.specs.declared.filtering.Goal.{Goal}
use Rattle.np_net_text.specs.Canonical.{trusted_words, config_words, area_words, device_words, interface_words, slot_line, free_lines, goal_words, only_word, filtering_lines}
use Rattle.np_net_text.proofs.ChainLaws.{ArePlainLines, plain_lines_append}
use Rattle.np_net_text.proofs.PlainForms.{addresses_plain, decimal_plain, pred_plain}
use Rattle.np_net_read.specs.Words.{ArePlainWords}
use Rattle.np_net_text.proofs.PlainWords.{plain_append, name_plain, interface_name_plain}

-- ---- words

trusted_plain : (trusted : Bool) → ArePlainWords (trusted_words trusted)
trusted_plain true = (refl, tt)
trusted_plain false = tt

config_plain : (config : Option (List ℕ)) → IfSome config (λ file. is_file_name file ≡ true) → ArePlainWords (config_words config)
config_plain None h = tt
config_plain (Some file) h = (refl, (h, tt))

only_plain : (only : Bool) → is_file_name (only_word only) ≡ true
only_plain true = refl
only_plain false = refl

-- the name at a place in a list of items with plain names
pub named_plain : {X : Type 0} (P : X → Type 0) (name : X → List ℕ) → ((x : X) → P x → is_file_name (name x) ≡ true) → (xs : List X) (n : ℕ) → AllByRecursion P xs → n < length xs → is_file_name (get_or (map name xs) n []) ≡ true
named_plain P name each [] n h lt = absurd (omega arith)
named_plain P name each (x ∷ xs) zero h lt = each x h.0
named_plain P name each (x ∷ xs) (suc n) h lt = named_plain P name each xs n h.1 (omega arith)

-- ---- areas and devices

areas_plain : (areas : List Area) → AllByRecursion (λ area. IsArea area) areas → ArePlainLines (map area_words areas)
areas_plain [] h = tt
areas_plain (area ∷ areas) h = ((refl, (name_plain area.name h.0.name, (addresses_plain area.sources, trusted_plain area.trusted))), areas_plain areas h.1)

devices_plain : (devices : List Device) → AllByRecursion (λ device. IsDevice device) devices → ArePlainLines (map device_words devices)
devices_plain [] h = tt
devices_plain (device ∷ devices) h =
    ((refl, (name_plain device.name h.0.name, plain_append (config_words device.config) (trusted_words device.trusted) (config_plain device.config h.0.config) (trusted_plain device.trusted))), devices_plain devices h.1)

-- ---- what names them

module _ (net : Plan) (is : IsNetwork net) where
  pub area_plain : (n : ℕ) → n < length net.areas → is_file_name (area_name net n) ≡ true
  area_plain n lt = named_plain (λ (area : Area). IsArea area) (λ (area : Area). area.name) (λ area h. name_plain area.name h.name) net.areas n is.areas lt

  pub device_plain : (n : ℕ) → n < length net.devices → is_file_name (device_name net n) ≡ true
  device_plain n lt = named_plain (λ (device : Device). IsDevice device) (λ (device : Device). device.name) (λ device h. name_plain device.name h.name) net.devices n is.devices lt

  abbrev Formed : Interface → Type 0
  Formed interface = IsInterface (length net.devices) (length net.areas) interface

  interfaces_plain : (interfaces : List Interface) → AllByRecursion Formed interfaces → ArePlainLines (map (interface_words net) interfaces)
  interfaces_plain [] h = tt
  interfaces_plain (interface ∷ interfaces) h =
      ((refl, (device_plain interface.device h.0.device, (interface_name_plain interface.name h.0.name, (area_plain interface.area h.0.area, tt)))), interfaces_plain interfaces h.1)

  slot_plain : (interface : Interface) (way : List ℕ) (free : Bool) → Formed interface → is_file_name way ≡ true → ArePlainLines (slot_line net interface way free)
  slot_plain interface way true h w = ((refl, (device_plain interface.device h.device, (interface_name_plain interface.name h.name, (w, tt)))), tt)
  slot_plain interface way false h w = tt

  free_plain : (interfaces : List Interface) (flags : List Bool) → AllByRecursion Formed interfaces → ArePlainLines (free_lines net interfaces flags)
  free_plain [] flags h = tt
  free_plain (interface ∷ interfaces) [] h = tt
  free_plain (interface ∷ interfaces) (inward ∷ []) h = tt
  free_plain (interface ∷ interfaces) (inward ∷ outward ∷ flags) h =
      plain_lines_append (slot_line net interface (codes "in") inward) _ (slot_plain interface (codes "in") inward h.0 refl)
      (plain_lines_append (slot_line net interface (codes "out") outward) (free_lines net interfaces flags) (slot_plain interface (codes "out") outward h.0 refl) (free_plain interfaces flags h.1))

  goals_plain : (goals : List Goal) → AllByRecursion (λ goal. IsGoal (length net.areas) goal) goals → ArePlainLines (map (goal_words net) goals)
  goals_plain [] h = tt
  goals_plain (goal ∷ goals) h =
      ((refl, (area_plain goal.from h.0.from, (area_plain goal.to h.0.to, (only_plain goal.only, pred_plain goal.pred h.0.pred.octets)))), goals_plain goals h.1)

  -- ---- all lines

  depth_plain : is_file_name (decimal net.depth) ≡ true
  depth_plain = let deep : net.depth ≤ depth_limit = is.deep in decimal_plain net.depth (omega arith)

  behind_depth_plain : ArePlainLines (map area_words net.areas ++ (map device_words net.devices ++ (map (interface_words net) net.interfaces ++ (free_lines net net.interfaces net.free ++ map (goal_words net) net.goals))))
  behind_depth_plain =
      plain_lines_append (map area_words net.areas) _ (areas_plain net.areas is.areas)
      (plain_lines_append (map device_words net.devices) _ (devices_plain net.devices is.devices)
      (plain_lines_append (map (interface_words net) net.interfaces) _ (interfaces_plain net.interfaces is.interfaces)
      (plain_lines_append (free_lines net net.interfaces net.free) (map (goal_words net) net.goals) (free_plain net.interfaces net.free is.interfaces) (goals_plain net.goals is.goals))))

  pub filtering_plain : ArePlainLines (filtering_lines net)
  filtering_plain = ((refl, (depth_plain, tt)), behind_depth_plain)
