-- The rules of interfaces: one table for each, in their order.
use Rattle.std.specs.Prelude.{ℕ, List, [], ◌∷◌, ◌++◌, map, slice_index_or, slice_set}
use Rattle.std.specs.List.{sum}
use Rattle.np_net.specs.Network.{rule_count}
use Rattle.np_net.specs.declared.associations.InRule.{InRule}
use Rattle.np_net.specs.declared.associations.OutRule.{OutRule}
use Rattle.np_net.specs.declared.associations.Table.{Table}

-- a table without rules
abbrev pub no_rules : Table
no_rules = record { pops = []; ins = []; outs = [] }

-- the table of this number, and one without rules past the end
abbrev pub table_at : List Table → ℕ → Table
table_at tables n = slice_index_or tables n no_rules

-- the rules of all tables
abbrev pub rule_total : List Table → ℕ
rule_total tables = sum (map rule_count tables)

-- one more pop rule after the others
abbrev pub with_pop : ℕ → Table → Table
with_pop sa table = record table { pops = table.pops ++ sa ∷ [] }

-- one more inward rule after the others
abbrev pub with_in_rule : InRule → Table → Table
with_in_rule rule table = record table { ins = table.ins ++ rule ∷ [] }

-- one more outward rule after the others
abbrev pub with_out_rule : OutRule → Table → Table
with_out_rule rule table = record table { outs = table.outs ++ rule ∷ [] }

-- these tables, with a change of the one of this number
abbrev pub changed_at : ℕ → (Table → Table) → List Table → List Table
changed_at n change tables = slice_set tables n (change (table_at tables n))
