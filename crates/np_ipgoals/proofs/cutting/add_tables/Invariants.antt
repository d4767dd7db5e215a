use Rattle.std.proofs.Common.{◌≡◌, ◌++◌, map, take}
use Rattle.std.specs.List.{flat_map}
use Rattle.np_ipgoals.specs.Cuts.{table_preds}
use Rattle.np_ipgoals.proofs.cutting.add_tables.Given as goal

abbrev pub invariant-loop-table : goal.invariant-loop-table
invariant-loop-table l = map (λ pred. pred.now) l.preds.items ≡ map (λ pred. pred.now) l.initial.preds.items ++ flat_map table_preds (take l.table-index l.tables)
