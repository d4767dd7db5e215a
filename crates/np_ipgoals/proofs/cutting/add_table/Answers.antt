use Rattle.std.proofs.Common.{◌≡◌, List, ◌++◌, append_assoc}
use Rattle.std.specs.List.{flat_map}
use Rattle.np_pred.specs.declared.predicate.Pred.{Pred}
use Rattle.np_net.specs.declared.associations.InRule.{InRule}
use Rattle.np_net.specs.declared.associations.OutRule.{OutRule}
use Rattle.np_net.specs.declared.associations.Table.{Table}
use Rattle.np_ipgoals.specs.Cuts.{asked, table_preds}
use Rattle.np_ipgoals.proofs.cutting.add_table.Goals as goal

-- predicates after which those of the inward rules stand, and then those of the outward rules
both_added : (table : Table) (old mid new : List Pred) (ins : List InRule) (outs : List OutRule) → ins ≡ table.ins → outs ≡ table.outs
    → mid ≡ old ++ flat_map (λ rule. asked rule.top) ins → new ≡ mid ++ flat_map (λ rule. asked rule.top) outs → new ≡ old ++ table_preds table
both_added table old mid new ins outs same_ins same_outs first second =
    rw (second, first, same_ins, same_outs) (append_assoc old (flat_map (λ (rule : InRule). asked rule.top) table.ins) (flat_map (λ (rule : OutRule). asked rule.top) table.outs))

pub returns : goal.returns
returns c = both_added c.args.table.now _ _ _ _ _ c.as_slice.ensures c.as_slice-2.ensures c.in_ok-add_ins.ensures c.in_ok-add_outs.ensures
