-- What is kept while a text is read: what its lines declare so far, the names for looking them up, and how many rules there are.
use Rattle.std.specs.Prelude.{◌≡◌}
use Rattle.np_net.specs.Sources.{source_list}
use Rattle.np_net.specs.Plan.{area_names, device_names, interface_names, sa_names}
use Rattle.np_net_read.specs.declared.draft.Draft.{Draft}
use Rattle.np_net_read.specs.Fitting.{IsSound}
use Rattle.np_net_read.specs.Tables.{rule_total}

-- the names are those of what is declared, which makes a network, and the rules are counted
pub record IsDraft (draft : Draft) : Type 0 where
  pub areas : draft.area_names ≡ area_names draft.declared.areas
  pub sources : draft.sources ≡ source_list draft.declared.areas
  pub devices : draft.device_names ≡ device_names draft.declared.devices
  pub places : draft.places ≡ interface_names draft.declared.interfaces
  pub freed : draft.freed.keys ≡ draft.declared.freed
  pub sas : draft.sa_names ≡ sa_names draft.declared.sas
  pub rules : draft.rules ≡ rule_total draft.declared.tables
  pub sound : IsSound draft.declared
