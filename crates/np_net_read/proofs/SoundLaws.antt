-- A statement that fits after what is declared leaves declarations that make a network.
use Rattle.std.proofs.Common.{◌≡◌, ℕ, ◌<◌, ◌≤◌, ◌+◌, ◌*◌, Bool, false, List, [], ◌∷◌, ◌++◌, length, map, arith}
use Rattle.std.specs.List.{list_any}
use Rattle.std.specs.Str.{bytes_eq}
use Rattle.std.proofs.lemmas.List.{map-append}
use Rattle.np_net.specs.Distinct.{AreDistinct, same_place}
use Rattle.np_net.specs.Network.{IsInterface, IsGoal, IsSa, IsIpGoal, rule_count}
use Rattle.np_net.specs.Limits.{rule_limit}
use Rattle.np_net.specs.Path.{device_of}
use Rattle.np_net.specs.declared.filtering.Area.{Area}
use Rattle.np_net.specs.declared.filtering.Device.{Device}
use Rattle.np_net.specs.declared.filtering.Interface.{Interface}
use Rattle.np_net.specs.declared.filtering.Goal.{Goal}
use Rattle.np_net.specs.declared.associations.Sa.{Sa}
use Rattle.np_net.specs.declared.associations.InRule.{InRule}
use Rattle.np_net.specs.declared.associations.OutRule.{OutRule}
use Rattle.np_net.specs.declared.associations.Table.{Table}
use Rattle.np_net.specs.declared.associations.IpGoal.{IpGoal}
use Rattle.np_net.specs.declared.associations.IpGoal.TheVariants as ipgoal
use Rattle.np_net_read.specs.declared.declared.Declared.{Declared}
use Rattle.np_net_read.specs.declared.statement.Statement.{Statement}
use Rattle.np_net_read.specs.declared.statement.Statement.TheVariants as statement
use Rattle.np_net_read.specs.Fitting.{Fits, IsSound, added, IsNewDepth, IsNewArea, IsNewDevice, IsNewInterface, IsNewSlot, IsNewGoal, IsNewSa, HasRoom, IsNewPop, IsNewInRule, IsNewOutRule, IsNewIpGoal}
use Rattle.np_net_read.specs.Tables.{changed_at, rule_total, table_at, with_in_rule, with_out_rule, with_pop}
use Rattle.np_net_read.proofs.ListLaws.{all_more, all_weaker, new_more, length_more}
use Rattle.np_net_read.proofs.TableLaws.{in_rule_added, in_rule_counts, out_rule_added, out_rule_counts, pop_added, pop_counts, table_each, table_more, tables_changed, tables_stay, total_begun, total_changed}

more_room : {X : Type 0} (limit : ℕ) (xs : List X) (x : X) → length xs < limit → length (xs ++ x ∷ []) ≤ limit
more_room limit xs x room = let more = length_more xs x in omega arith

-- one more distinct name
distinct_more : {X K : Type 0} (eq : K → K → Bool) (key : X → K) (xs : List X) (x : X) → AreDistinct eq (map key xs) → list_any (eq (key x)) (map key xs) ≡ false → AreDistinct eq (map key (xs ++ x ∷ []))
distinct_more eq key xs x distinct none = rw (map-append key xs (x ∷ [])) (new_more eq [] (map key xs) (key x) distinct none)

interface_stays : (devices more_devices areas more_areas : ℕ) → devices ≤ more_devices → areas ≤ more_areas → (i : Interface) → IsInterface devices areas i → IsInterface more_devices more_areas i
interface_stays devices more_devices areas more_areas d a i is = record { name = is.name; device = (let h = is.device in omega arith); area = (let h = is.area in omega arith) }

goal_stays : (areas more_areas : ℕ) → areas ≤ more_areas → (g : Goal) → IsGoal areas g → IsGoal more_areas g
goal_stays areas more_areas a g is = record { from = (let h = is.from in omega arith); to = (let h = is.to in omega arith); apart = is.apart; pred = is.pred }

sa_stays : (devices more_devices : ℕ) → devices ≤ more_devices → (s : Sa) → IsSa devices s → IsSa more_devices s
sa_stays devices more_devices d s is = record { name = is.name; from = (let h = is.from in omega arith); to = (let h = is.to in omega arith) }

ipgoal_stays : (areas more_areas : ℕ) → areas ≤ more_areas → (g : IpGoal) → IsIpGoal areas g → IsIpGoal more_areas g
ipgoal_stays areas more_areas a (ipgoal.Auth from at pred) is = let f = is.0 in let t = is.1 in (omega arith, omega arith, is.2)
ipgoal_stays areas more_areas a (ipgoal.Conf from pred) is = let f = is.0 in (omega arith, is.1)

longer : {X : Type 0} (xs : List X) (x : X) → length xs ≤ length (xs ++ x ∷ [])
longer xs x = let more = length_more xs x in omega arith

sound_area : (d : Declared) (a : Area) → IsSound d → IsNewArea d a → IsSound (added d (statement.Area a))
sound_area d a sound new = record {
  area_room = more_room _ d.areas a new.room;
  device_room = sound.device_room;
  interface_room = sound.interface_room;
  goal_room = sound.goal_room;
  sa_room = sound.sa_room;
  rule_room = sound.rule_room;
  ipgoal_room = sound.ipgoal_room;
  area_names = distinct_more bytes_eq (λ area. area.name) d.areas a sound.area_names new.new;
  device_names = sound.device_names;
  interface_names = sound.interface_names;
  sa_names = sound.sa_names;
  areas = all_more _ d.areas a sound.areas new.formed;
  devices = sound.devices;
  interfaces = all_weaker _ _ d.interfaces (interface_stays (length d.devices) (length d.devices) (length d.areas) (length (d.areas ++ a ∷ [])) (omega arith) (longer d.areas a)) sound.interfaces;
  freed = sound.freed;
  goals = all_weaker _ _ d.goals (goal_stays (length d.areas) (length (d.areas ++ a ∷ [])) (longer d.areas a)) sound.goals;
  sas = sound.sas;
  tables = sound.tables;
  ipgoals = all_weaker _ _ d.ipgoals (ipgoal_stays (length d.areas) (length (d.areas ++ a ∷ [])) (longer d.areas a)) sound.ipgoals;
  depth = sound.depth;
}

sound_device : (d : Declared) (device : Device) → IsSound d → IsNewDevice d device → IsSound (added d (statement.Device device))
sound_device d device sound new = record {
  area_room = sound.area_room;
  device_room = more_room _ d.devices device new.room;
  interface_room = sound.interface_room;
  goal_room = sound.goal_room;
  sa_room = sound.sa_room;
  rule_room = sound.rule_room;
  ipgoal_room = sound.ipgoal_room;
  area_names = sound.area_names;
  device_names = distinct_more bytes_eq (λ (device : Device). device.name) d.devices device sound.device_names new.new;
  interface_names = sound.interface_names;
  sa_names = sound.sa_names;
  areas = sound.areas;
  devices = all_more _ d.devices device sound.devices new.formed;
  interfaces = all_weaker _ _ d.interfaces (interface_stays (length d.devices) (length (d.devices ++ device ∷ [])) (length d.areas) (length d.areas) (longer d.devices device) (omega arith)) sound.interfaces;
  freed = sound.freed;
  goals = sound.goals;
  sas = all_weaker _ _ d.sas (sa_stays (length d.devices) (length (d.devices ++ device ∷ [])) (longer d.devices device)) sound.sas;
  tables = sound.tables;
  ipgoals = sound.ipgoals;
  depth = sound.depth;
}

slot_stays : (few many slot : ℕ) → few ≤ many → slot < 2 * few → slot < 2 * many
slot_stays few many slot more within = omega arith

sound_interface : (d : Declared) (i : Interface) → IsSound d → IsNewInterface d i → IsSound (added d (statement.Interface i))
sound_interface d i sound new = record {
  area_room = sound.area_room;
  device_room = sound.device_room;
  interface_room = more_room _ d.interfaces i new.room;
  goal_room = sound.goal_room;
  sa_room = sound.sa_room;
  rule_room = rw (total_begun d.tables) sound.rule_room;
  ipgoal_room = sound.ipgoal_room;
  area_names = sound.area_names;
  device_names = sound.device_names;
  interface_names = distinct_more same_place (λ (interface : Interface). (interface.device, interface.name)) d.interfaces i sound.interface_names new.new;
  sa_names = sound.sa_names;
  areas = sound.areas;
  devices = sound.devices;
  interfaces = all_more _ d.interfaces i sound.interfaces new.formed;
  freed = all_weaker _ _ d.freed (λ slot within. slot_stays (length d.interfaces) (length (d.interfaces ++ i ∷ [])) slot (longer d.interfaces i) within) sound.freed;
  goals = sound.goals;
  sas = sound.sas;
  tables = table_more d.sas d.interfaces i d.tables sound.tables;
  ipgoals = sound.ipgoals;
  depth = sound.depth;
}

sound_slot : (d : Declared) (slot : ℕ) → IsSound d → IsNewSlot d slot → IsSound (added d (statement.Free slot))
sound_slot d slot sound new = record {
  area_room = sound.area_room;
  device_room = sound.device_room;
  interface_room = sound.interface_room;
  goal_room = sound.goal_room;
  sa_room = sound.sa_room;
  rule_room = sound.rule_room;
  ipgoal_room = sound.ipgoal_room;
  area_names = sound.area_names;
  device_names = sound.device_names;
  interface_names = sound.interface_names;
  sa_names = sound.sa_names;
  areas = sound.areas;
  devices = sound.devices;
  interfaces = sound.interfaces;
  freed = all_more _ d.freed slot sound.freed new.within;
  goals = sound.goals;
  sas = sound.sas;
  tables = sound.tables;
  ipgoals = sound.ipgoals;
  depth = sound.depth;
}

sound_goal : (d : Declared) (goal : Goal) → IsSound d → IsNewGoal d goal → IsSound (added d (statement.Goal goal))
sound_goal d goal sound new = record {
  area_room = sound.area_room;
  device_room = sound.device_room;
  interface_room = sound.interface_room;
  goal_room = more_room _ d.goals goal new.room;
  sa_room = sound.sa_room;
  rule_room = sound.rule_room;
  ipgoal_room = sound.ipgoal_room;
  area_names = sound.area_names;
  device_names = sound.device_names;
  interface_names = sound.interface_names;
  sa_names = sound.sa_names;
  areas = sound.areas;
  devices = sound.devices;
  interfaces = sound.interfaces;
  freed = sound.freed;
  goals = all_more _ d.goals goal sound.goals new.formed;
  sas = sound.sas;
  tables = sound.tables;
  ipgoals = sound.ipgoals;
  depth = sound.depth;
}

sound_depth : (d : Declared) (depth : ℕ) → IsSound d → IsNewDepth d depth → IsSound (added d (statement.Depth depth))
sound_depth d depth sound new = record {
  area_room = sound.area_room;
  device_room = sound.device_room;
  interface_room = sound.interface_room;
  goal_room = sound.goal_room;
  sa_room = sound.sa_room;
  rule_room = sound.rule_room;
  ipgoal_room = sound.ipgoal_room;
  area_names = sound.area_names;
  device_names = sound.device_names;
  interface_names = sound.interface_names;
  sa_names = sound.sa_names;
  areas = sound.areas;
  devices = sound.devices;
  interfaces = sound.interfaces;
  freed = sound.freed;
  goals = sound.goals;
  sas = sound.sas;
  tables = sound.tables;
  ipgoals = sound.ipgoals;
  depth = (new.shallow, new.deep);
}

sound_sa : (d : Declared) (sa : Sa) → IsSound d → IsNewSa d sa → IsSound (added d (statement.Sa sa))
sound_sa d sa sound new = record {
  area_room = sound.area_room;
  device_room = sound.device_room;
  interface_room = sound.interface_room;
  goal_room = sound.goal_room;
  sa_room = more_room _ d.sas sa new.room;
  rule_room = sound.rule_room;
  ipgoal_room = sound.ipgoal_room;
  area_names = sound.area_names;
  device_names = sound.device_names;
  interface_names = sound.interface_names;
  sa_names = distinct_more bytes_eq (λ (sa : Sa). sa.name) d.sas sa sound.sa_names new.new;
  areas = sound.areas;
  devices = sound.devices;
  interfaces = sound.interfaces;
  freed = sound.freed;
  goals = sound.goals;
  sas = all_more _ d.sas sa sound.sas new.formed;
  tables = tables_stay d.sas sa d.interfaces d.tables sound.tables;
  ipgoals = sound.ipgoals;
  depth = sound.depth;
}

-- with one rule more there are as many as the limit at most
rule_fits : (d : Declared) (interface : ℕ) (change : Table → Table) → ((t : Table) → rule_count (change t) ≡ rule_count t + 1) → IsSound d → HasRoom d interface → rule_total (changed_at interface change d.tables) ≤ rule_limit
rule_fits d interface change one sound has =
    let within = has.within in
    let room = has.room in
    let each = table_each d.sas d.interfaces d.tables sound.tables in
    let total = total_changed change one d.tables interface (omega arith) in
    omega arith

sound_pop : (d : Declared) (interface sa : ℕ) → IsSound d → IsNewPop d interface sa → IsSound (added d (statement.Pop interface sa))
sound_pop d interface sa sound new = record {
  area_room = sound.area_room;
  device_room = sound.device_room;
  interface_room = sound.interface_room;
  goal_room = sound.goal_room;
  sa_room = sound.sa_room;
  rule_room = rule_fits d interface (with_pop sa) (pop_counts sa) sound new.room;
  ipgoal_room = sound.ipgoal_room;
  area_names = sound.area_names;
  device_names = sound.device_names;
  interface_names = sound.interface_names;
  sa_names = sound.sa_names;
  areas = sound.areas;
  devices = sound.devices;
  interfaces = sound.interfaces;
  freed = sound.freed;
  goals = sound.goals;
  sas = sound.sas;
  tables = tables_changed (with_pop sa) d.sas d.interfaces d.tables interface sound.tables new.room.within (λ is. pop_added d.sas (device_of d.interfaces interface) (table_at d.tables interface) is sa new.formed new.new);
  ipgoals = sound.ipgoals;
  depth = sound.depth;
}

sound_in_rule : (d : Declared) (interface : ℕ) (rule : InRule) → IsSound d → IsNewInRule d interface rule → IsSound (added d (statement.InRule interface rule))
sound_in_rule d interface rule sound new = record {
  area_room = sound.area_room;
  device_room = sound.device_room;
  interface_room = sound.interface_room;
  goal_room = sound.goal_room;
  sa_room = sound.sa_room;
  rule_room = rule_fits d interface (with_in_rule rule) (in_rule_counts rule) sound new.room;
  ipgoal_room = sound.ipgoal_room;
  area_names = sound.area_names;
  device_names = sound.device_names;
  interface_names = sound.interface_names;
  sa_names = sound.sa_names;
  areas = sound.areas;
  devices = sound.devices;
  interfaces = sound.interfaces;
  freed = sound.freed;
  goals = sound.goals;
  sas = sound.sas;
  tables = tables_changed (with_in_rule rule) d.sas d.interfaces d.tables interface sound.tables new.room.within (λ is. in_rule_added d.sas (device_of d.interfaces interface) (table_at d.tables interface) is rule new.formed);
  ipgoals = sound.ipgoals;
  depth = sound.depth;
}

sound_out_rule : (d : Declared) (interface : ℕ) (rule : OutRule) → IsSound d → IsNewOutRule d interface rule → IsSound (added d (statement.OutRule interface rule))
sound_out_rule d interface rule sound new = record {
  area_room = sound.area_room;
  device_room = sound.device_room;
  interface_room = sound.interface_room;
  goal_room = sound.goal_room;
  sa_room = sound.sa_room;
  rule_room = rule_fits d interface (with_out_rule rule) (out_rule_counts rule) sound new.room;
  ipgoal_room = sound.ipgoal_room;
  area_names = sound.area_names;
  device_names = sound.device_names;
  interface_names = sound.interface_names;
  sa_names = sound.sa_names;
  areas = sound.areas;
  devices = sound.devices;
  interfaces = sound.interfaces;
  freed = sound.freed;
  goals = sound.goals;
  sas = sound.sas;
  tables = tables_changed (with_out_rule rule) d.sas d.interfaces d.tables interface sound.tables new.room.within (λ is. out_rule_added d.sas (device_of d.interfaces interface) (table_at d.tables interface) is rule new.formed);
  ipgoals = sound.ipgoals;
  depth = sound.depth;
}

sound_ipgoal : (d : Declared) (goal : IpGoal) → IsSound d → IsNewIpGoal d goal → IsSound (added d (statement.IpGoal goal))
sound_ipgoal d goal sound new = record {
  area_room = sound.area_room;
  device_room = sound.device_room;
  interface_room = sound.interface_room;
  goal_room = sound.goal_room;
  sa_room = sound.sa_room;
  rule_room = sound.rule_room;
  ipgoal_room = more_room _ d.ipgoals goal new.room;
  area_names = sound.area_names;
  device_names = sound.device_names;
  interface_names = sound.interface_names;
  sa_names = sound.sa_names;
  areas = sound.areas;
  devices = sound.devices;
  interfaces = sound.interfaces;
  freed = sound.freed;
  goals = sound.goals;
  sas = sound.sas;
  tables = sound.tables;
  ipgoals = all_more _ d.ipgoals goal sound.ipgoals new.formed;
  depth = sound.depth;
}

-- what is declared stays sound with a statement that fits
pub sound_more : (d : Declared) (s : Statement) → IsSound d → Fits d s → IsSound (added d s)
sound_more d (statement.Depth depth) sound fits = sound_depth d depth sound fits
sound_more d (statement.Area area) sound fits = sound_area d area sound fits
sound_more d (statement.Device device) sound fits = sound_device d device sound fits
sound_more d (statement.Interface interface) sound fits = sound_interface d interface sound fits
sound_more d (statement.Free slot) sound fits = sound_slot d slot sound fits
sound_more d (statement.Goal goal) sound fits = sound_goal d goal sound fits
sound_more d (statement.Sa sa) sound fits = sound_sa d sa sound fits
sound_more d (statement.Pop interface sa) sound fits = sound_pop d interface sa sound fits
sound_more d (statement.InRule interface rule) sound fits = sound_in_rule d interface rule sound fits
sound_more d (statement.OutRule interface rule) sound fits = sound_out_rule d interface rule sound fits
sound_more d (statement.IpGoal goal) sound fits = sound_ipgoal d goal sound fits
