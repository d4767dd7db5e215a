-- The canonical words of a depth, an area, a device, an interface and a goal are read as these.
use Rattle.std.proofs.Common.{◌≡◌, ℕ, ◌+◌, ◌<◌, ◌≤◌, Bool, true, false, List, [], ◌∷◌, ◌++◌, length, map, Option, Some, None, Ok, sym, refl, ap, subst, arith, append-nil, append_assoc, length-append}
use Rattle.std.specs.List.{AllByRecursion, list_any}
use Rattle.std.specs.Str.{bytes_eq}
use Rattle.std.proofs.lemmas.Bool.{lt-ltb}
use Rattle.std.proofs.lemmas.List.{map-append, length-map}
use Rattle.np_text.proofs.NumberLaws.{number_of-decimal}
use Rattle.np_pred.proofs.ReadBackLaws.{addresses_of-text, pred_of_words}
use Rattle.np_net.specs.Distinct.{AreNewAfter, same_place}
use Rattle.np_net.specs.Limits.{declaration_limit, interface_limit, depth_limit}
use Rattle.np_net.specs.Network.{IsArea, IsDevice, IsInterface, IsGoal, IsNetwork}
use Rattle.np_net.specs.Naming.{area_name, device_name}
use Rattle.np_net.specs.Plan.{Plan, area_names, device_names, interface_names}
use Rattle.np_net.specs.declared.filtering.Area.{Area}
use Rattle.np_net.specs.declared.filtering.Device.{Device}
use Rattle.np_net.specs.declared.filtering.Interface.{Interface}
use Rattle.np_net.specs.declared.filtering.Goal.{Goal}
use Rattle.np_net_read.specs.declared.declared.Declared.{Declared}
use Rattle.np_net_read.specs.declared.statement.Statement.TheVariants as statement
use Rattle.np_net_text.specs.Canonical.{trusted_words, config_words, depth_words, area_words, device_words, interface_words, goal_words, only_word}
use Rattle.np_net.specs.Sources.{source_list}
use Rattle.np_net_read.specs.Fitting.{IsNewDepth, IsNewArea, IsNewDevice}
use Rattle.np_net_read.specs.Tables.{no_rules}
use Rattle.np_net_read.specs.Judging.{named, only_of, trusted_of, options_of, words_say, depth_says, area_says, device_says, interface_says, goal_says}
use Rattle.np_net_text.proofs.ChainLaws.{ReadsInto}
use Rattle.np_net.proofs.NamingLaws.{name_found}

-- ---- the depth

pub depth_read : (declared : Declared) (depth : ℕ) → IsNewDepth declared depth → words_say declared (depth_words depth) ≡ Ok (Some (statement.Depth depth))
unfolding depth_says
depth_read declared depth h =
    let shallow = h.shallow in
    let deep = h.deep in
    rw (h.new, number_of-decimal depth depth_limit (omega arith) deep, lt-ltb 0 depth (omega arith)) refl

-- ---- areas

trusted_back : (trusted : Bool) → trusted_of (trusted_words trusted) ≡ Ok trusted
trusted_back true = refl
trusted_back false = refl

area_read : (declared : Declared) (area : Area) → IsNewArea declared area → words_say declared (area_words area) ≡ Ok (Some (statement.Area area))
unfolding area_says
area_read declared area h =
    rw (h.formed.name, h.new, addresses_of-text area.sources h.formed.sources, trusted_back area.trusted, lt-ltb (length declared.areas) declaration_limit h.room) refl

pub areas_read : (declared : Declared) (areas : List Area) → AreNewAfter bytes_eq (area_names declared.areas) (area_names areas) → AllByRecursion (λ area. IsArea area) areas → length declared.areas + length areas ≤ declaration_limit
    → ReadsInto declared (map area_words areas) (record declared { areas = declared.areas ++ areas })
areas_read declared [] new formed room = ap (λ areas. record declared { areas = areas }) (sym (append-nil declared.areas))
areas_read declared (area ∷ areas) new formed room =
    let fits : IsNewArea declared area = record { formed = formed.0; new = new.0; room = omega arith } in
    let rest = areas_read (record declared { areas = declared.areas ++ area ∷ [] }) areas (subst (λ seen. AreNewAfter bytes_eq seen (area_names areas)) (sym (map-append (λ (a : Area). a.name) declared.areas (area ∷ []))) new.1) formed.1 (omega (arith, length-append declared.areas (area ∷ []))) in
    (statement.Area area, area_read declared area fits, subst (λ all. ReadsInto (record declared { areas = declared.areas ++ area ∷ [] }) (map area_words areas) (record declared { areas = all })) (append_assoc declared.areas (area ∷ []) areas) rest)

-- ---- devices

options_back : (config : Option (List ℕ)) (trusted : Bool) → options_of (config_words config ++ trusted_words trusted) ≡ Ok (config, trusted)
options_back None true = refl
options_back None false = refl
options_back (Some file) true = refl
options_back (Some file) false = refl

device_read : (declared : Declared) (device : Device) → IsNewDevice declared device → words_say declared (device_words device) ≡ Ok (Some (statement.Device device))
unfolding device_says
device_read declared device h =
    rw (h.formed.name, h.new, options_back device.config device.trusted, lt-ltb (length declared.devices) declaration_limit h.room) refl

pub devices_read : (declared : Declared) (devices : List Device) → AreNewAfter bytes_eq (device_names declared.devices) (device_names devices) → AllByRecursion (λ device. IsDevice device) devices → length declared.devices + length devices ≤ declaration_limit
    → ReadsInto declared (map device_words devices) (record declared { devices = declared.devices ++ devices })
devices_read declared [] new formed room = ap (λ devices. record declared { devices = devices }) (sym (append-nil declared.devices))
devices_read declared (device ∷ devices) new formed room =
    let fits : IsNewDevice declared device = record { formed = formed.0; new = new.0; room = omega arith } in
    let rest = devices_read (record declared { devices = declared.devices ++ device ∷ [] }) devices (subst (λ seen. AreNewAfter bytes_eq seen (device_names devices)) (sym (map-append (λ (d : Device). d.name) declared.devices (device ∷ []))) new.1) formed.1 (omega (arith, length-append declared.devices (device ∷ []))) in
    (statement.Device device, device_read declared device fits, subst (λ all. ReadsInto (record declared { devices = declared.devices ++ device ∷ [] }) (map device_words devices) (record declared { devices = all })) (append_assoc declared.devices (device ∷ []) devices) rest)

-- ---- what follows the areas and devices names them

-- what is declared after the areas and devices of the network
abbrev pub stage : Plan → List Interface → List ℕ → List Goal → Declared
stage net interfaces freed goals = record { areas = net.areas; devices = net.devices; interfaces = interfaces; freed = freed; goals = goals; sas = []; tables = map (λ interface. no_rules) interfaces; ipgoals = []; depth = Some net.depth }

module _ (net : Plan) (is : IsNetwork net) where
  pub area_named : (n : ℕ) → n < length net.areas → named (area_names net.areas) (area_name net n) ≡ Ok n
  area_named n lt = rw (name_found (area_names net.areas) n is.names.areas (omega (arith, length-map net.areas (λ (area : Area). area.name)))) refl

  pub device_named : (n : ℕ) → n < length net.devices → named (device_names net.devices) (device_name net n) ≡ Ok n
  device_named n lt = rw (name_found (device_names net.devices) n is.names.devices (omega (arith, length-map net.devices (λ (device : Device). device.name)))) refl

  -- ---- interfaces

  interface_read : (before : List Interface) (interface : Interface) → IsInterface (length net.devices) (length net.areas) interface → list_any (same_place (interface.device, interface.name)) (interface_names before) ≡ false → length before < interface_limit
      → words_say (stage net before [] []) (interface_words net interface) ≡ Ok (Some (statement.Interface interface))
  unfolding interface_says
  interface_read before interface formed new room =
      rw (device_named interface.device formed.device, formed.name, new, area_named interface.area formed.area, lt-ltb (length before) interface_limit room) refl

  pub interfaces_read : (before interfaces : List Interface) → AreNewAfter same_place (interface_names before) (interface_names interfaces) → AllByRecursion (λ interface. IsInterface (length net.devices) (length net.areas) interface) interfaces → length before + length interfaces ≤ interface_limit
      → ReadsInto (stage net before [] []) (map (interface_words net) interfaces) (stage net (before ++ interfaces) [] [])
  interfaces_read before [] new formed room = ap (λ interfaces. stage net interfaces [] []) (sym (append-nil before))
  interfaces_read before (interface ∷ interfaces) new formed room =
      let rest = interfaces_read (before ++ interface ∷ []) interfaces (subst (λ seen. AreNewAfter same_place seen (interface_names interfaces)) (sym (map-append (λ (i : Interface). (i.device, i.name)) before (interface ∷ []))) new.1) formed.1 (omega (arith, length-append before (interface ∷ []))) in
      let begun = map-append (λ (i : Interface). no_rules) before (interface ∷ []) in
      (statement.Interface interface, interface_read before interface formed.0 new.0 (omega arith), subst (λ tables. ReadsInto (record (stage net (before ++ interface ∷ []) [] []) { tables = tables }) (map (interface_words net) interfaces) (stage net (before ++ interface ∷ interfaces) [] [])) begun (subst (λ all. ReadsInto (stage net (before ++ interface ∷ []) [] []) (map (interface_words net) interfaces) (stage net all [] [])) (append_assoc before (interface ∷ []) interfaces) rest))

  -- ---- goals

  only_back : (only : Bool) → only_of (only_word only) ≡ Ok only
  only_back true = refl
  only_back false = refl

  goal_read : (freed : List ℕ) (before : List Goal) (goal : Goal) → IsGoal (length net.areas) goal → length before < declaration_limit
      → words_say (stage net net.interfaces freed before) (goal_words net goal) ≡ Ok (Some (statement.Goal goal))
  unfolding goal_says
  goal_read freed before goal formed room =
      rw (area_named goal.from formed.from, area_named goal.to formed.to, formed.apart, only_back goal.only, pred_of_words (source_list net.areas) goal.pred formed.pred, lt-ltb (length before) declaration_limit room) refl

  pub goals_read : (freed : List ℕ) (before goals : List Goal) → AllByRecursion (λ goal. IsGoal (length net.areas) goal) goals → length before + length goals ≤ declaration_limit
      → ReadsInto (stage net net.interfaces freed before) (map (goal_words net) goals) (stage net net.interfaces freed (before ++ goals))
  goals_read freed before [] formed room = ap (λ goals. stage net net.interfaces freed goals) (sym (append-nil before))
  goals_read freed before (goal ∷ goals) formed room =
      let rest = goals_read freed (before ++ goal ∷ []) goals formed.1 (omega (arith, length-append before (goal ∷ []))) in
      (statement.Goal goal, goal_read freed before goal formed.0 (omega arith), subst (λ all. ReadsInto (stage net net.interfaces freed (before ++ goal ∷ [])) (map (goal_words net) goals) (stage net net.interfaces freed all)) (append_assoc before (goal ∷ []) goals) rest)
