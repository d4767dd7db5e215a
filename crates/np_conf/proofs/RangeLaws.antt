-- What an interface's rules put around packets is an association of the network.
use Rattle.std.proofs.Common.{◌≡◌, ℕ, zero, suc, ◌<◌, Bool, true, false, List, [], ◌∷◌, length, get_or, cond, arith, sym, subst}
use Rattle.std.specs.List.{AllByRecursion}
use Rattle.np_net.specs.Network.{AreTables, IsNetwork, IsOutAction, IsOutRule, IsTable, IsFrom}
use Rattle.np_net.specs.Plan.{Plan}
use Rattle.np_net.specs.declared.associations.OutAction.{OutAction}
use Rattle.np_net.specs.declared.associations.OutAction.TheVariants as outs
use Rattle.np_net.specs.declared.associations.OutRule.{OutRule}
use Rattle.np_net.specs.declared.associations.Sa.{Sa}
use Rattle.np_net.specs.declared.associations.Table.{Table}
use Rattle.np_net.specs.declared.filtering.Interface.{Interface}
use Rattle.np_ipsec.specs.Tables.{fits_top, out_action_by, out_action_of, table_at}
use Rattle.np_ipsec.specs.declared.tables.Top.{Top}

module _ (sas : List Sa) where
  -- the table of each interface is one of its device
  table_is : (interfaces : List Interface) (tables : List Table) → AreTables sas interfaces tables → (i : ℕ) → i < length interfaces → (device : ℕ) × IsTable sas device (get_or tables i record { pops = []; ins = []; outs = [] })
  table_is [] [] are i lt = absurd (omega arith)
  table_is [] (table ∷ tables) are i lt = absurd are
  table_is (interface ∷ interfaces) [] are i lt = absurd are
  table_is (interface ∷ interfaces) (table ∷ tables) are zero lt = (interface.device, are.0)
  table_is (interface ∷ interfaces) (table ∷ tables) are (suc i) lt = table_is interfaces tables are.1 i (omega arith)

  -- what one rule or the later ones say of an association that there is
  either_is : (device : ℕ) (fits : Bool) (here later : OutAction) → IsOutAction sas device here → IsOutAction sas device later → IsOutAction sas device (cond fits here later)
  either_is device true here later is rest = is
  either_is device false here later is rest = rest

  -- what the rules of a device say names an association that there is
  action_is : (device : ℕ) (rules : List OutRule) (top : Top) → AllByRecursion (λ rule. IsOutRule sas device rule) rules → IsOutAction sas device (out_action_by rules top)
  action_is device [] top are = tt
  action_is device (rule ∷ rules) top are = either_is device (fits_top rule.top top) rule.action (out_action_by rules top) are.0.action (action_is device rules top are.1)

-- an association that an interface's rules put around packets is one of the network
pub protection_in_range : (net : Plan) → IsNetwork net → (i : ℕ) (top : Top) (k : ℕ) → i < length net.interfaces → outs.Protect k ≡ out_action_of net i top → k < length net.sas
protection_in_range net is i top k lt protects =
    let table = table_is net.sas net.interfaces net.tables is.tables i lt in
    let action = action_is net.sas table.0 (table_at net i).outs top table.1.outs in
    let from : IsFrom net.sas table.0 k = subst (λ a. IsOutAction net.sas table.0 a) (sym protects) action in
    from.within
