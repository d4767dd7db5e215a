-- The ends of an association are devices of the network, and each interface has its table.
use Rattle.std.proofs.Common.{◌≡◌, ◌∙◌, ℕ, ◌<◌, List, [], length, get_or, ap, sym, subst}
use Rattle.std.proofs.lemmas.List.{get_or_default}
use Rattle.np_net.specs.declared.associations.Kind.TheVariants as kinds
use Rattle.np_net.specs.declared.associations.Table.{Table}
use Rattle.np_net.specs.Network.{IsNetwork, IsSa, sa_at}
use Rattle.np_net.specs.Plan.{Plan}
use Rattle.np_net.proofs.ListLaws.{all_index}
use Rattle.np_net.proofs.RangeLaws.{table_in_range}
use Rattle.np_ipsec.specs.Tables.{table_at}

module _ (net : Plan) (is : IsNetwork net) (n : ℕ) where
  -- what holds of an association
  sa_is : n < length net.sas → IsSa (length net.devices) (sa_at net.sas n)
  sa_is lt = all_index (λ sa. IsSa (length net.devices) sa) net.sas n (record { name = []; kind = kinds.Esp; from = 0; to = 0 }) lt is.sas

  -- where it begins
  pub from_in_range : n < length net.sas → (sa_at net.sas n).from < length net.devices
  from_in_range lt = (sa_is lt).from

  -- where it ends
  pub to_in_range : n < length net.sas → (sa_at net.sas n).to < length net.devices
  to_in_range lt = (sa_is lt).to

  module _ (tables : List Table) where
    -- the table of an interface is among the tables
    pub table_within : tables ≡ net.tables → n < length net.interfaces → n < length tables
    table_within same lt = subst (λ l. n < length l) (sym same) (table_in_range net is n lt)

    -- the one at its place is the interface's, whatever stands past the end
    pub table_found : (table : Table) → tables ≡ net.tables → n < length net.interfaces → table ≡ get_or tables n table → table ≡ table_at net n
    table_found table same lt found =
        found ∙ ap (λ l. get_or l n table) same
        ∙ get_or_default net.tables n table (record { pops = []; ins = []; outs = [] }) (table_in_range net is n lt)
