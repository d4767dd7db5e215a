-- A draft with one more statement.
use Rattle.std.proofs.Common.{◌≡◌, ℕ, ◌+◌, ◌<◌, ◌≤◌, List, [], ◌∷◌, ◌++◌, length, None, sym, ◌∙◌, ap, arith}
use Rattle.std.specs.Str.{bytes_eq}
use Rattle.std.proofs.lemmas.List.{map-append, length-map}
use Rattle.np_pred.specs.Areas.{sources_named}
use Rattle.np_net.specs.Network.{rule_count}
use Rattle.np_net.specs.Sources.{source_list}
use Rattle.np_net.specs.Plan.{area_names, device_names, interface_names, sa_names}
use Rattle.np_net.specs.declared.filtering.Area.{Area}
use Rattle.np_net.specs.declared.filtering.Device.{Device}
use Rattle.np_net.specs.declared.filtering.Interface.{Interface}
use Rattle.np_net.specs.declared.associations.Sa.{Sa}
use Rattle.np_net.specs.declared.associations.InRule.{InRule}
use Rattle.np_net.specs.declared.associations.OutRule.{OutRule}
use Rattle.np_net.specs.declared.associations.Table.{Table}
use Rattle.np_net_read.specs.declared.draft.Draft.{Draft}
use Rattle.np_net_read.specs.declared.statement.Statement.TheVariants as statement
use Rattle.np_net_read.specs.Declaring.{declared_by_network}
use Rattle.np_net_read.specs.Drafting.{IsDraft}
use Rattle.np_net_read.specs.Fitting.{IsSound, added, IsNewArea, IsNewDevice, IsNewInterface, IsNewSa, IsNewPop, IsNewInRule, IsNewOutRule}
use Rattle.np_net_read.specs.Tables.{changed_at, rule_total, with_in_rule, with_out_rule, with_pop}
use Rattle.np_net.proofs.ListLaws.{lookup_none}
use Rattle.np_net_read.proofs.SoundLaws.{sound_more}
use Rattle.np_net_read.proofs.TableLaws.{in_rule_counts, out_rule_counts, pop_counts, table_each, total_begun, total_changed}

-- what is declared before any line makes a network
pub sound_first : IsSound (declared_by_network [])
unfolding declared_by_network
sound_first = record {
  area_room = omega arith;
  device_room = omega arith;
  interface_room = omega arith;
  goal_room = omega arith;
  sa_room = omega arith;
  rule_room = omega arith;
  ipgoal_room = omega arith;
  area_names = tt;
  device_names = tt;
  interface_names = tt;
  sa_names = tt;
  areas = tt;
  devices = tt;
  interfaces = tt;
  freed = tt;
  goals = tt;
  sas = tt;
  tables = tt;
  ipgoals = tt;
  depth = tt;
}

-- the first draft
pub draft_first : (d : Draft) → d.declared ≡ declared_by_network [] → d.area_names ≡ [] → d.sources ≡ [] → d.device_names ≡ [] → d.places ≡ [] → d.freed.keys ≡ [] → d.sa_names ≡ [] → d.rules ≡ 0 → IsDraft d
unfolding declared_by_network
draft_first d declared areas sources devices places freed sas rules = record {
  areas = areas ∙ sym (ap (λ d. area_names d.areas) declared);
  sources = sources ∙ sym (ap (λ d. source_list d.areas) declared);
  devices = devices ∙ sym (ap (λ d. device_names d.devices) declared);
  places = places ∙ sym (ap (λ d. interface_names d.interfaces) declared);
  freed = freed ∙ sym (ap (λ d. d.freed) declared);
  sas = sas ∙ sym (ap (λ d. sa_names d.sas) declared);
  rules = rules ∙ sym (ap (λ d. rule_total d.tables) declared);
  sound = rw declared sound_first;
}

-- a new area is none that predicates name
pub area_unnamed : (d : Draft) (a : Area) → IsDraft d → IsNewArea d.declared a → sources_named d.sources a.name ≡ None
area_unnamed d a draft new = rw draft.sources (lookup_none (bytes_eq a.name) (λ area. area.name) (λ area. area.sources) d.declared.areas new.new)

-- the same for the test by a name that is looked up
pub draft_area : (d : Draft) (a : Area) → IsDraft d → IsNewArea d.declared a →
    IsDraft (record d { declared = added d.declared (statement.Area a); area_names = d.area_names ++ a.name ∷ []; sources = d.sources ++ (a.name, a.sources) ∷ [] })
draft_area d a draft new = record {
  areas = ap (λ xs. xs ++ a.name ∷ []) draft.areas ∙ sym (map-append (λ area. area.name) d.declared.areas (a ∷ []));
  sources = ap (λ xs. xs ++ (a.name, a.sources) ∷ []) draft.sources ∙ sym (map-append (λ area. (area.name, area.sources)) d.declared.areas (a ∷ []));
  devices = draft.devices;
  places = draft.places;
  freed = draft.freed;
  sas = draft.sas;
  rules = draft.rules;
  sound = sound_more d.declared (statement.Area a) draft.sound new;
}

pub draft_device : (d : Draft) (device : Device) → IsDraft d → IsNewDevice d.declared device →
    IsDraft (record d { declared = added d.declared (statement.Device device); device_names = d.device_names ++ device.name ∷ [] })
draft_device d device draft new = record {
  areas = draft.areas;
  sources = draft.sources;
  devices = ap (λ xs. xs ++ device.name ∷ []) draft.devices ∙ sym (map-append (λ device. device.name) d.declared.devices (device ∷ []));
  places = draft.places;
  freed = draft.freed;
  sas = draft.sas;
  rules = draft.rules;
  sound = sound_more d.declared (statement.Device device) draft.sound new;
}

pub draft_interface : (d : Draft) (i : Interface) → IsDraft d → IsNewInterface d.declared i →
    IsDraft (record d { declared = added d.declared (statement.Interface i); places = d.places ++ (i.device, i.name) ∷ [] })
draft_interface d i draft new = record {
  areas = draft.areas;
  sources = draft.sources;
  devices = draft.devices;
  places = ap (λ xs. xs ++ (i.device, i.name) ∷ []) draft.places ∙ sym (map-append (λ interface. (interface.device, interface.name)) d.declared.interfaces (i ∷ []));
  freed = draft.freed;
  sas = draft.sas;
  rules = draft.rules ∙ sym (total_begun d.declared.tables);
  sound = sound_more d.declared (statement.Interface i) draft.sound new;
}

pub draft_sa : (d : Draft) (sa : Sa) → IsDraft d → IsNewSa d.declared sa →
    IsDraft (record d { declared = added d.declared (statement.Sa sa); sa_names = d.sa_names ++ sa.name ∷ [] })
draft_sa d sa draft new = record {
  areas = draft.areas;
  sources = draft.sources;
  devices = draft.devices;
  places = draft.places;
  freed = draft.freed;
  sas = ap (λ xs. xs ++ sa.name ∷ []) draft.sas ∙ sym (map-append (λ sa. sa.name) d.declared.sas (sa ∷ []));
  rules = draft.rules;
  sound = sound_more d.declared (statement.Sa sa) draft.sound new;
}

-- each interface has a table
pub has_table : (d : Draft) (interface : ℕ) → IsDraft d → interface < length d.declared.interfaces → interface < length d.declared.tables
has_table d interface draft lt = let each = table_each d.declared.sas d.declared.interfaces d.declared.tables draft.sound.tables in omega arith

-- a rule more
draft_rule : (d : Draft) (interface : ℕ) (change : Table → Table) → IsDraft d → interface < length d.declared.interfaces → ((t : Table) → rule_count (change t) ≡ rule_count t + 1)
    → IsSound (record d.declared { tables = changed_at interface change d.declared.tables })
    → IsDraft (record d { declared = record d.declared { tables = changed_at interface change d.declared.tables }; rules = d.rules + 1 })
draft_rule d interface change draft lt one sound = record {
  areas = draft.areas;
  sources = draft.sources;
  devices = draft.devices;
  places = draft.places;
  freed = draft.freed;
  sas = draft.sas;
  rules = ap (λ n. n + 1) draft.rules ∙ sym (total_changed change one d.declared.tables interface (has_table d interface draft lt));
  sound = sound;
}

pub draft_pop : (d : Draft) (interface sa : ℕ) → IsDraft d → IsNewPop d.declared interface sa → IsDraft (record d { declared = added d.declared (statement.Pop interface sa); rules = d.rules + 1 })
draft_pop d interface sa draft new = draft_rule d interface (with_pop sa) draft new.room.within (pop_counts sa) (sound_more d.declared (statement.Pop interface sa) draft.sound new)

pub draft_in_rule : (d : Draft) (interface : ℕ) (rule : InRule) → IsDraft d → IsNewInRule d.declared interface rule → IsDraft (record d { declared = added d.declared (statement.InRule interface rule); rules = d.rules + 1 })
draft_in_rule d interface rule draft new = draft_rule d interface (with_in_rule rule) draft new.room.within (in_rule_counts rule) (sound_more d.declared (statement.InRule interface rule) draft.sound new)

pub draft_out_rule : (d : Draft) (interface : ℕ) (rule : OutRule) → IsDraft d → IsNewOutRule d.declared interface rule → IsDraft (record d { declared = added d.declared (statement.OutRule interface rule); rules = d.rules + 1 })
draft_out_rule d interface rule draft new = draft_rule d interface (with_out_rule rule) draft new.room.within (out_rule_counts rule) (sound_more d.declared (statement.OutRule interface rule) draft.sound new)

-- the names of a draft are few enough for numbers of 16 bits
pub few_areas : (d : Draft) → IsDraft d → length d.area_names ≤ 65535
few_areas d draft = rw (draft.areas, length-map d.declared.areas (λ area. area.name)) (let room = draft.sound.area_room in omega arith)

pub few_devices : (d : Draft) → IsDraft d → length d.device_names ≤ 65535
few_devices d draft = rw (draft.devices, length-map d.declared.devices (λ device. device.name)) (let room = draft.sound.device_room in omega arith)

pub few_interfaces : (d : Draft) → IsDraft d → length d.places ≤ 65535
few_interfaces d draft = rw (draft.places, length-map {B = ℕ × List ℕ} d.declared.interfaces (λ interface. (interface.device, interface.name))) (let room = draft.sound.interface_room in omega arith)

pub few_sas : (d : Draft) → IsDraft d → length d.sa_names ≤ 65535
few_sas d draft = rw (draft.sas, length-map d.declared.sas (λ sa. sa.name)) (let room = draft.sound.sa_room in omega arith)
